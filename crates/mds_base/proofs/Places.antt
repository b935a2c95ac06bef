-- Places are in a total order that tells them apart; what an edit changes is its own place.
use Rattle.std.proofs.Common.{◌≡◌, ◌∙◌, ap, refl, Bool, true, cond, Some, None}
use Rattle.std.specs.Cmp.{IsTotalOrder, nat_cmp_total, eq_by_cmp_equiv}
use Rattle.std.specs.Cmp.Lexicographic.{slice_cmp}
use Rattle.std.specs.Ordering.{nat_cmp, eq_by_cmp}
use Rattle.std.specs.FinMap as map
use Rattle.std.proofs.lemmas.Cmp.{then_total, on_total, nat_list_cmp_total}
use Rattle.std.proofs.lemmas.Map.Lookups.{exact_pairs, exact_unsigned, exact_bytes}
use Rattle.mds_base.specs.declared.edit.Edit.{Edit}
use Rattle.mds_base.specs.declared.edit.Edit.TheVariants.{Keep, Put, Take}
use Rattle.mds_base.specs.Entries.{Place, place_cmp, Entries, edited, edited_entry}
use Rattle.mds_base.proofs.Maps.{insert_apart, remove_apart}

pub places_total : IsTotalOrder place_cmp
places_total = then_total (on_total (λ (p : Place). p.0) nat_cmp_total) (on_total (λ (p : Place). p.1) nat_list_cmp_total)

pub exact_places : map.IsAntisymmetric place_cmp
exact_places = exact_pairs nat_cmp (slice_cmp nat_cmp) exact_unsigned exact_bytes

-- two maps with the same look-ups are one
pub same_entries : (m n : Entries) → ((place : Place) → map.get m place ≡ map.get n place) → m ≡ n
same_entries = map.same_map places_total exact_places

-- an edit changes no other place
pub edited_apart : (entries : Entries) (place : Place) (edit : Edit) (other : Place) → (other ≡ place → ⊥) → map.get (edited entries place edit) other ≡ map.get entries other
edited_apart entries place Keep other differ = refl
edited_apart entries place (Put attr) other differ = insert_apart places_total exact_places entries place attr other differ
edited_apart entries place Take other differ = remove_apart places_total exact_places entries place other differ

itself : (place : Place) → eq_by_cmp place_cmp place place ≡ true
itself place = (eq_by_cmp_equiv places_total).refl place

-- at its place it leaves what it makes of the entry that stood there
pub edited_here : (entries : Entries) (place : Place) (edit : Edit) → map.get (edited entries place edit) place ≡ edited_entry edit (map.get entries place)
edited_here entries place Keep = refl
edited_here entries place (Put attr) = map.get-insert places_total entries place attr place ∙ ap (λ (b : Bool). cond b (Some attr) (map.get entries place)) (itself place)
edited_here entries place Take = map.get-remove places_total entries place place ∙ ap (λ (b : Bool). cond b None (map.get entries place)) (itself place)
