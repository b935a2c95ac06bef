-- Until when names are held, and the top: what grants and sweeps do to them.
use Rattle.std.proofs.Common.{◌≡◌, ◌∙◌, sym, ap, refl, ℕ, Bool, true, false, cond, List, [], Option, Some, None, ◌<◌, ◌≤◌, max, nat_lt, arith, subst, inl, inr, ◌⊎◌}
use Rattle.std.specs.Prelude.{unwrap_or, ◌≢◌}
use Rattle.std.specs.Cmp.{tied_itself}
use Rattle.std.specs.Cmp.Lexicographic.{slice_cmp}
use Rattle.std.specs.Ordering.{nat_cmp, is_eq}
use Rattle.std.specs.FinMap as map
use Rattle.std.proofs.lemmas.Bool.{ltb-false, false≢true}
use Rattle.std.proofs.lemmas.Cmp.{nat_list_cmp_total}
use Rattle.std.proofs.lemmas.Map.Lookups.{exact_bytes}
use Rattle.mds_base.proofs.Maps.{insert_apart}
use Rattle.leases.specs.Leases.{Ends, LeasesV, unleased, end_of, granted, held_until, top, ends_above, swept}
use Rattle.leases.proofs.Above.{names, one_name, end_above, get_above}
use Rattle.leases.proofs.Greatest.{upto_top, floor_upto_top, top_least, top_of_none}

-- ---- ends

end_here : (m : Ends) (name : List ℕ) (end : ℕ) → end_of (map.insert m name end) name ≡ end
end_here m name end = ap (λ o. unwrap_or o 0) (map.get-insert nat_list_cmp_total m name end name ∙ ap (λ r. cond (is_eq r) (Some end) (map.get m name)) (tied_itself nat_list_cmp_total name))

end_apart : (m : Ends) (name : List ℕ) (end : ℕ) (other : List ℕ) → other ≢ name → end_of (map.insert m name end) other ≡ end_of m other
end_apart m name end other differ = ap (λ o. unwrap_or o 0) (insert_apart nat_list_cmp_total exact_bytes m name end other differ)

above_or_none : (now : ℕ) (o : Option ℕ) → unwrap_or (end_above now o) 0 ≡ cond (nat_lt now (unwrap_or o 0)) (unwrap_or o 0) 0
above_or_none now o = elim (nat_lt now (unwrap_or o 0)) as (λ b. unwrap_or (cond b o None) 0 ≡ cond b (unwrap_or o 0) 0) [ true ↦ refl | false ↦ refl ]

-- the end that a sweep leaves
pub end_above_is : (m : Ends) (now : ℕ) (name : List ℕ) → end_of (ends_above m now) name ≡ cond (nat_lt now (end_of m name)) (end_of m name) 0
end_above_is m now name = ap (λ o. unwrap_or o 0) (get_above m now name) ∙ above_or_none now (map.get m name)

-- ---- held

pub granted_here : (l : LeasesV) (name : List ℕ) (until : ℕ) → held_until (granted l name until) name ≡ max (held_until l name) until
granted_here l name until = let here = end_here l.ends name (max (end_of l.ends name) until) in omega arith

pub granted_apart : (l : LeasesV) (name other : List ℕ) (until : ℕ) → other ≢ name → held_until (granted l name until) other ≡ held_until l other
granted_apart l name other until differ = ap (λ end. max end l.floor) (end_apart l.ends name (max (end_of l.ends name) until) other differ)

pub swept_held : (l : LeasesV) (now : ℕ) (name : List ℕ) → now < held_until l name → held_until (swept l now) name ≡ held_until l name
swept_held l now name held =
    ap (λ end. max end l.floor) (end_above_is l.ends now name)
    ∙ elim (nat_lt now (end_of l.ends name)) as (λ b. nat_lt now (end_of l.ends name) ≡ b → max (cond b (end_of l.ends name) 0) l.floor ≡ held_until l name) [
      | true ↦ λ above. refl
      | false ↦ λ over. let ended = ltb-false now (end_of l.ends name) over in omega arith
    ] refl

pub swept_upto : (l : LeasesV) (now : ℕ) (name : List ℕ) → held_until (swept l now) name ≤ held_until l name
swept_upto l now name =
    let is = end_above_is l.ends now name in
    let upto : cond (nat_lt now (end_of l.ends name)) (end_of l.ends name) 0 ≤ end_of l.ends name = elim (nat_lt now (end_of l.ends name)) as (λ b. cond b (end_of l.ends name) 0 ≤ end_of l.ends name) [ true ↦ omega arith | false ↦ omega arith ] in
    omega arith

-- ---- the top

pub bounded : (l : LeasesV) (name : List ℕ) → held_until l name ≤ top l
bounded l name = omega (arith, upto_top l name, floor_upto_top l)

pub least : (l : LeasesV) (bound : ℕ) → ((name : List ℕ) → held_until l name ≤ bound) → top l ≤ bound
least l bound upto = top_least l bound (omega (arith, upto [])) (λ name. omega (arith, upto name))

-- a grant is on a name, or changes nothing of it
held_of : (l : LeasesV) (name : List ℕ) (until : ℕ) (other : List ℕ) → (other ≡ name) ⊎ (held_until (granted l name until) other ≡ held_until l other)
held_of l name until other = elim (names other name) as (λ b. names other name ≡ b → (other ≡ name) ⊎ (held_until (granted l name until) other ≡ held_until l other)) [
  | true ↦ λ same. inl (one_name other name same)
  | false ↦ λ apart. inr (granted_apart l name other until (λ same. false≢true (sym apart ∙ ap (λ q. names q name) same ∙ ap is_eq (tied_itself nat_list_cmp_total name))))
] refl

pub top_granted : (l : LeasesV) (name : List ℕ) (until : ℕ) → top (granted l name until) ≡ max (top l) until
top_granted l name until =
    let new = granted l name until in
    let here = granted_here l name until in
    let grown : (other : List ℕ) → held_until l other ≤ top new = λ other. elim (held_of l name until other) [
      | inl same ↦ subst (λ q. held_until l q ≤ top new) (sym same) (omega (arith, bounded new name, here))
      | inr apart ↦ omega (arith, bounded new other, apart)
    ] in
    let within : (other : List ℕ) → held_until new other ≤ max (top l) until = λ other. elim (held_of l name until other) [
      | inl same ↦ subst (λ q. held_until new q ≤ max (top l) until) (sym same) (omega (arith, bounded l name, here))
      | inr apart ↦ omega (arith, bounded l other, apart)
    ] in
    omega (arith, bounded new name, here, least l (top new) grown, least new (max (top l) until) within)

pub top_swept : (l : LeasesV) (now : ℕ) → top (swept l now) ≤ top l
top_swept l now = least (swept l now) (top l) (λ name. omega (arith, swept_upto l now name, bounded l name))

pub unleased_held : (floor : ℕ) (name : List ℕ) → held_until (unleased floor) name ≡ floor
unleased_held floor name = ap (λ o. max (unwrap_or o 0) floor) (map.get-empty (slice_cmp nat_cmp) name) ∙ omega arith

pub unleased_top : (floor : ℕ) → top (unleased floor) ≡ floor
unleased_top floor = top_of_none (unleased floor) refl
