-- Session maps as lists by rising clients, and back.
use Rattle.std.proofs.Common.{◌≡◌, ◌∙◌, sym, ap, refl, ℕ, List, [], ◌∷◌, map, length, arith, Option, Some, cond, ◌<◌, ◌≤◌, ◌-◌, suc, drop, get_or, drop-cons, subst, IsSome, None}
use Rattle.std.specs.Ordering.{nat_cmp}
use Rattle.std.specs.declared.cmp.Ordering.TheVariants.{Less}
use Rattle.std.specs.Cmp.{nat_cmp_total}
use Rattle.std.specs.List.{AllByRecursion}
use Rattle.std.specs.List.Sorted.{IsStrictlySortedBy}
use Rattle.std.specs.FinMap as map
use Rattle.std.specs.FinMap.Entries.{put}
use Rattle.std.proofs.lemmas.Map.Lookups.{exact_unsigned}
use Rattle.std.specs.Map.{lookup}
use Rattle.std.specs.BTreeMap.{is_at}
use Rattle.mds_base.proofs.Maps.{get_entries, one_put}
use Rattle.mds_base.specs.declared.session.Session.{Session}
use Rattle.sessions.specs.declared.kept.Kept.{Kept}
use Rattle.sessions.specs.Kept.{SessionMap, listed, from_listed, session_of, entry_of, restored, put_back}

put_first : (k : ℕ) (v : Kept) (es : List (ℕ × Kept)) → AllByRecursion (λ y. nat_cmp k y ≡ Less) (map (λ e. e.0) es) → put nat_cmp k v es ≡ (k, v) ∷ es
put_first k v [] below = refl
put_first k v (e ∷ es) below = rw below.0 refl

no_entry : (es : List (ℕ × Kept)) → length es ≡ 0 → es ≡ []
no_entry [] e = refl
no_entry (x ∷ es) e = absurd (omega arith)

no_entries : map.entries (map.empty {X = Kept} {R = nat_cmp}) ≡ []
no_entries = no_entry _ (sym (map.len-entries (map.empty {X = Kept} {R = nat_cmp})) ∙ map.len-empty nat_cmp Kept)

-- entries whose keys rise strictly are the entries of the map that they make
pub entries_rising : (es : List (ℕ × Kept)) → IsStrictlySortedBy nat_cmp (map (λ e. e.0) es) → map.entries (map.from_entries {R = nat_cmp} es) ≡ es
unfolding IsStrictlySortedBy
entries_rising [] rising = no_entries
entries_rising (e ∷ es) rising = map.entries-insert nat_cmp_total (map.from_entries es) e.0 e.1 ∙ ap (put nat_cmp e.0 e.1) (entries_rising es rising.1) ∙ put_first e.0 e.1 es rising.0

-- a map is the map of its entries
pub from_own_entries : (m : SessionMap) → map.from_entries (map.entries m) ≡ m
from_own_entries m = map.same_map nat_cmp_total exact_unsigned _ _ (λ q. map.get-from_entries nat_cmp_total (map.entries m) q ∙ sym (map.get-entries m q))

entries_again : (es : List (ℕ × Kept)) → map entry_of (map session_of es) ≡ es
entries_again [] = refl
entries_again (e ∷ es) = ap (λ r. e ∷ r) (entries_again es)

-- the list of a map leads back to it
pub from_own_list : (m : SessionMap) → from_listed (listed m) ≡ m
from_own_list m = ap (λ es. map.from_entries es) (entries_again (map.entries m)) ∙ from_own_entries m

-- what a map of entries keeps of a client is what a search of the entries finds
pub kept_is : (es : List (ℕ × Kept)) (m : SessionMap) (client : ℕ) (o : Option Kept) → map.from_entries es ≡ m → o ≡ lookup (is_at (nat_cmp client)) es → map.get m client ≡ o
kept_is es m client o is found = ap (λ n. map.get n client) (sym is) ∙ get_entries nat_cmp_total exact_unsigned es client ∙ sym found

-- a list's sessions from a place on, and the one before it
pub put_before : (list : List Session) (left : ℕ) (d : Session) (es fs : List (ℕ × Kept)) → 0 < left → left ≤ length list
    → map.from_entries {R = nat_cmp} es ≡ from_listed (drop left list)
    → ((q : ℕ) → lookup (is_at (nat_cmp q)) fs ≡ cond (is_at (nat_cmp (entry_of (get_or list (left - 1) d)).0) q) (Some (entry_of (get_or list (left - 1) d)).1) (lookup (is_at (nat_cmp q)) es))
    → map.from_entries {R = nat_cmp} fs ≡ from_listed (drop (left - 1) list)
put_before list left d es fs above within so_far puts =
    let here : left - 1 < length list = omega arith in
    let next : suc (left - 1) ≡ left = omega arith in
    let e = entry_of (get_or list (left - 1) d) in
    one_put nat_cmp_total exact_unsigned es fs e.0 e.1 puts
    ∙ ap (λ m. map.insert m e.0 e.1) so_far
    ∙ sym (ap from_listed (drop-cons list (left - 1) d here ∙ ap (λ n. get_or list (left - 1) d ∷ drop n list) next))

-- what is put back where something is kept, and where nothing is
pub put_there : (es fs : List (ℕ × Kept)) (client : ℕ) (old new : Kept) → Some old ≡ lookup (is_at (nat_cmp client)) es
    → (IsSome (lookup (is_at (nat_cmp client)) es) → (q : ℕ) → lookup (is_at (nat_cmp q)) fs ≡ cond (is_at (nat_cmp client) q) (Some new) (lookup (is_at (nat_cmp q)) es))
    → map.from_entries {R = nat_cmp} fs ≡ restored (map.from_entries es) client (Some new)
put_there es fs client old new found puts =
    one_put nat_cmp_total exact_unsigned es fs client new (puts (subst IsSome found refl))
    ∙ ap (λ o. put_back (map.from_entries es) client o (Some new)) (found ∙ sym (get_entries nat_cmp_total exact_unsigned es client))

pub put_nowhere : (es : List (ℕ × Kept)) (client : ℕ) (new : Kept) → None ≡ lookup (is_at (nat_cmp client)) es → map.from_entries {R = nat_cmp} es ≡ restored (map.from_entries es) client (Some new)
put_nowhere es client new none = ap (λ o. put_back (map.from_entries es) client o (Some new)) (none ∙ sym (get_entries nat_cmp_total exact_unsigned es client))
