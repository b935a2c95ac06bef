-- A session's entry that was noted and is put back.
use Rattle.std.proofs.Common.{◌≡◌, ◌∙◌, sym, ap, refl, ℕ, Bool, true, false, cond, Option, Some, None, inl, inr, subst}
use Rattle.std.specs.Prelude.{◌⊎◌}
use Rattle.std.specs.declared.cmp.Ordering.TheVariants.{Less, Equal, Greater}
use Rattle.std.specs.Ordering.{nat_cmp, eq_by_cmp, is_eq}
use Rattle.std.specs.Cmp.{nat_cmp_total, eq_by_cmp_equiv}
use Rattle.std.specs.FinMap as map
use Rattle.std.proofs.lemmas.Map.Lookups.{exact_unsigned}
use Rattle.mds_base.specs.declared.reply.Final.{Final}
use Rattle.sessions.specs.declared.kept.Kept.{Kept}
use Rattle.sessions.specs.Kept.{SessionMap, noted, restored, put_back}
use Rattle.partition.specs.declared.partition.Partition.{Partition}

-- what is looked up at a key is not what is looked up beside it
beside : (q k : ℕ) → eq_by_cmp nat_cmp q k ≡ true → q ≡ k
beside q k e = by (nat_cmp q k) refl e
  where
    by : (r : _) → nat_cmp q k ≡ r → is_eq r ≡ true → q ≡ k
    by Less is e = cc
    by Equal is e = exact_unsigned q k is
    by Greater is e = cc

taken : (s : SessionMap) (k : ℕ) (new : Kept) (q : ℕ) (b : Bool) → eq_by_cmp nat_cmp q k ≡ b → map.get s k ≡ None → cond b None (cond b (Some new) (map.get s q)) ≡ map.get s q
taken s k new q true e none = sym (ap (map.get s) (beside q k e) ∙ none)
taken s k new q false e none = refl

over : (s : SessionMap) (k : ℕ) (new kept : Kept) (q : ℕ) (b : Bool) → eq_by_cmp nat_cmp q k ≡ b → map.get s k ≡ Some kept → cond b (Some kept) (cond b (Some new) (map.get s q)) ≡ map.get s q
over s k new kept q true e some = sym (ap (map.get s) (beside q k e) ∙ some)
over s k new kept q false e some = refl

here : (s : SessionMap) (k : ℕ) (new : Kept) → map.get (map.insert s k new) k ≡ Some new
here s k new = map.get-insert nat_cmp_total s k new k ∙ ap (λ b. cond b (Some new) (map.get s k)) ((eq_by_cmp_equiv nat_cmp_total).refl k)

back : (s : SessionMap) (client : ℕ) (new : Kept) (o : Option Kept) → map.get s client ≡ o → restored (map.insert s client new) client o ≡ s
back s client new None is = map.same_map nat_cmp_total exact_unsigned _ _ (λ q.
    map.get-remove nat_cmp_total (map.insert s client new) client q
    ∙ ap (λ o. cond (eq_by_cmp nat_cmp q client) None o) (map.get-insert nat_cmp_total s client new q)
    ∙ taken s client new q (eq_by_cmp nat_cmp q client) refl is)
back s client new (Some kept) is =
    ap (λ x. put_back (map.insert s client new) client x (Some kept)) (here s client new)
    ∙ map.same_map nat_cmp_total exact_unsigned _ _ (λ q.
    map.get-insert nat_cmp_total (map.insert s client new) client kept q
    ∙ ap (λ o. cond (eq_by_cmp nat_cmp q client) (Some kept) o) (map.get-insert nat_cmp_total s client new q)
    ∙ over s client new kept q (eq_by_cmp nat_cmp q client) refl is)

-- a note that is taken back leaves the sessions
pub note_back : (s : SessionMap) (client seq : ℕ) (said : Final) → restored (noted s client seq said) client (map.get s client) ≡ s
note_back s client seq said = back s client (record { seq = seq; said = said }) (map.get s client) refl

-- the partition whose sessions are what they were is the partition as it was
abbrev with_sessions : Partition → SessionMap → Partition
with_sessions part s = record part { sessions = s }

pub part_back : (part : Partition) (client seq : ℕ) (said : Final) (kept : Option Kept) (new back : SessionMap) → kept ≡ map.get part.sessions client → new ≡ noted part.sessions client seq said → back ≡ restored new client kept
    → ◌≡◌ {A = Partition} (record { sessions = back; leases = part.leases; count = part.count; split = part.split }) part
part_back part client seq said kept new back had note put =
    ap (with_sessions part) (put ∙ ap (λ m. restored m client kept) note ∙ ap (restored (noted part.sessions client seq said) client) had ∙ note_back part.sessions client seq said)
