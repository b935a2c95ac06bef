-- Whether the leases that have ended are dropped before a lease is granted or after.
use Rattle.std.proofs.Common.{◌≡◌, ◌∙◌, sym, ap, refl, ℕ, Bool, true, false, cond, List, Option, Some, None, ◌<◌, ◌≤◌, max, nat_lt, arith}
use Rattle.std.specs.Prelude.{unwrap_or}
use Rattle.std.specs.FinMap as map
use Rattle.std.proofs.lemmas.Bool.{lt-ltb, le-ltb, ltb-true, ltb-false}
use Rattle.std.proofs.lemmas.Cmp.{nat_list_cmp_total}
use Rattle.leases.specs.Leases.{Ends, LeasesV, end_of, ends_above, granted, swept}
use Rattle.leases.proofs.Above.{names, one_name, same_ends, end_above, get_above}

-- the end that is kept counts for the greater of two only where it is above the moment
greater_of : (now until : ℕ) (o : Option ℕ) → now < until → max (unwrap_or o 0) until ≡ max (unwrap_or (end_above now o) 0) until
greater_of now until o less = by (nat_lt now (unwrap_or o 0)) refl
  where
    by : (b : Bool) → nat_lt now (unwrap_or o 0) ≡ b → max (unwrap_or o 0) until ≡ max (unwrap_or (cond b o None) 0) until
    by true e = refl
    by false e = let ended : unwrap_or o 0 ≤ now = ltb-false now (unwrap_or o 0) e in omega arith

module _ (m : Ends) (name : List ℕ) (until now : ℕ) where
  put_above : now < until → ends_above (map.insert m name (max (end_of m name) until)) now ≡ map.insert (ends_above m now) name (max (end_of (ends_above m now) name) until)
  put_above less = same_ends _ _ (λ q.
      get_above (map.insert m name (max (end_of m name) until)) now q
      ∙ ap (end_above now) (map.get-insert nat_list_cmp_total m name (max (end_of m name) until) q)
      ∙ by q (names q name)
      ∙ ap (cond (names q name) (Some (max (end_of (ends_above m now) name) until))) (sym (get_above m now q))
      ∙ sym (map.get-insert nat_list_cmp_total (ends_above m now) name (max (end_of (ends_above m now) name) until) q))
    where
      same : max (end_of m name) until ≡ max (end_of (ends_above m now) name) until
      same = greater_of now until (map.get m name) less ∙ ap (λ o. max (unwrap_or o 0) until) (sym (get_above m now name))

      stays : end_above now (Some (max (end_of m name) until)) ≡ Some (max (end_of (ends_above m now) name) until)
      stays = ap (λ b. cond b (Some (max (end_of m name) until)) None) (lt-ltb now (max (end_of m name) until) (omega arith)) ∙ ap (λ n. Some n) same

      by : (q : List ℕ) (b : Bool) → end_above now (cond b (Some (max (end_of m name) until)) (map.get m q)) ≡ cond b (Some (max (end_of (ends_above m now) name) until)) (end_above now (map.get m q))
      by q true = stays
      by q false = refl

  ended_end : (o : Option ℕ) → until ≤ now → end_above now (Some (max (unwrap_or o 0) until)) ≡ end_above now o
  ended_end None ended =
      ap (λ b. cond b (Some (max 0 until)) None) (le-ltb now (max 0 until) (omega arith)) ∙ sym (ap (λ b. cond {A = Option ℕ} b None None) (le-ltb now 0 (omega arith)))
  ended_end (Some e) ended = by (nat_lt now e) refl
    where
      by : (b : Bool) → nat_lt now e ≡ b → end_above now (Some (max e until)) ≡ cond b (Some e) None
      by true is = let above : now < e = ltb-true now e is in let same : max e until ≡ e = omega arith in
          ap (λ n. end_above now (Some n)) same ∙ ap (λ b. cond b (Some e) None) is
      by false is = let below : e ≤ now = ltb-false now e is in ap (λ b. cond b (Some (max e until)) None) (le-ltb now (max e until) (omega arith))

  put_ended : until ≤ now → ends_above (map.insert m name (max (end_of m name) until)) now ≡ ends_above m now
  put_ended ended = same_ends _ _ (λ q.
      get_above (map.insert m name (max (end_of m name) until)) now q
      ∙ ap (end_above now) (map.get-insert nat_list_cmp_total m name (max (end_of m name) until) q)
      ∙ by q (names q name) refl ∙ sym (get_above m now q))
    where
      by : (q : List ℕ) (b : Bool) → names q name ≡ b → end_above now (cond b (Some (max (end_of m name) until)) (map.get m q)) ≡ end_above now (map.get m q)
      by q true e = ended_end (map.get m name) ended ∙ ap (λ n. end_above now (map.get m n)) (sym (one_name q name e))
      by q false e = refl

-- a lease of some length may be granted after the sweep as well
pub sweep_first : (leases : LeasesV) (name : List ℕ) (until now : ℕ) → now < until → swept (granted leases name until) now ≡ granted (swept leases now) name until
sweep_first leases name until now less = ap (λ (m : Ends). record leases { ends = m }) (put_above leases.ends name until now less)

-- one of no length is not kept
pub no_length : (leases : LeasesV) (name : List ℕ) (until now : ℕ) → until ≤ now → swept (granted leases name until) now ≡ swept leases now
no_length leases name until now ended = ap (λ (m : Ends). record leases { ends = m }) (put_ended leases.ends name until now ended)
