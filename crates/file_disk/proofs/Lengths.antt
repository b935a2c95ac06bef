-- The lengths that a disk of real files was told, after one was noted or forgotten.
use Rattle.std.proofs.Common.{◌≡◌, ◌≢◌, ⊎_elim, ℕ, List, Option, None, Some, cond, max, refl, sym, ◌∙◌, ap, subst}
use Rattle.std.proofs.lemmas.Bool.{cases_eq}
use Rattle.std.specs.Cmp.{eq_by_cmp_equiv, nat_cmp_total}
use Rattle.std.specs.FinMap as map
use Rattle.std.specs.FinMap.{nat_cmp-IsAntisymmetric}
use Rattle.std.specs.BTreeMap.{is_at}
use Rattle.std.specs.Map.{lookup}
use Rattle.std.specs.Ordering.{nat_cmp}
use Rattle.mds_base.proofs.Maps.{get_entries, insert_apart, one_put, one_taken, remove_apart}
use Rattle.mds_out.specs.Known.{OnKnown, OnTold}
use Rattle.file_disk.specs.Noted.{Noted, told_length, noted, forgotten, grown}

-- a disk by the entries of its map of lengths
abbrev pub disk_of : List (ℕ × ℕ) → (faults asked changes : ℕ) → Noted
disk_of entries faults asked changes = record { lengths = map.from_entries entries; faults = faults; asked = asked; changes = changes }

pub told_entry : (es : List (ℕ × ℕ)) (faults asked changes file : ℕ) → told_length (disk_of es faults asked changes) file ≡ lookup (is_at (nat_cmp file)) es
told_entry es faults asked changes file = get_entries nat_cmp_total nat_cmp-IsAntisymmetric es file

pub put_notes : (es fs : List (ℕ × ℕ)) (faults asked changes file length : ℕ)
    → ((q : ℕ) → lookup (is_at (nat_cmp q)) fs ≡ cond (is_at (nat_cmp file) q) (Some length) (lookup (is_at (nat_cmp q)) es))
    → disk_of fs faults asked changes ≡ noted (disk_of es faults asked changes) file length
put_notes es fs faults asked changes file length put = ap (λ m. record { lengths = m; faults = faults; asked = asked; changes = changes }) (one_put nat_cmp_total nat_cmp-IsAntisymmetric es fs file length put)

pub taking_forgets : (es fs : List (ℕ × ℕ)) (faults asked changes file : ℕ)
    → ((q : ℕ) → lookup (is_at (nat_cmp q)) fs ≡ cond (is_at (nat_cmp file) q) None (lookup (is_at (nat_cmp q)) es))
    → disk_of fs faults asked changes ≡ forgotten (disk_of es faults asked changes) file
taking_forgets es fs faults asked changes file taken = ap (λ m. record { lengths = m; faults = faults; asked = asked; changes = changes }) (one_taken nat_cmp_total nat_cmp-IsAntisymmetric es fs file taken)

pub noted_here : (disk : Noted) (file length : ℕ) → told_length (noted disk file length) file ≡ Some length
noted_here disk file length = map.get-insert nat_cmp_total disk.lengths file length file ∙ ap (λ b. cond b (Some length) (told_length disk file)) ((eq_by_cmp_equiv nat_cmp_total).refl file)

pub noted_apart : (disk : Noted) (file length other : ℕ) → other ≢ file → told_length (noted disk file length) other ≡ told_length disk other
noted_apart disk file length other apart = insert_apart nat_cmp_total nat_cmp-IsAntisymmetric disk.lengths file length other apart

pub forgotten_apart : (disk : Noted) (file other : ℕ) → other ≢ file → told_length (forgotten disk file) other ≡ told_length disk other
forgotten_apart disk file other apart = remove_apart nat_cmp_total nat_cmp-IsAntisymmetric disk.lengths file other apart

pub grown_here : (told : Option ℕ) (disk : Noted) (file end : ℕ) → OnKnown told (told_length (grown told disk file end) file) (λ old new. new ≡ max old end)
grown_here None disk file end = tt
grown_here (Some before) disk file end = subst (λ o. OnKnown (Some before) o (λ old new. new ≡ max old end)) (sym (noted_here disk file (max before end))) refl

pub grown_apart : (told : Option ℕ) (disk : Noted) (file end other : ℕ) → other ≢ file → told_length (grown told disk file end) other ≡ told_length disk other
grown_apart None disk file end other apart = refl
grown_apart (Some before) disk file end other apart = noted_apart disk file (max before end) other apart

-- a length that stays what it was is still told
pub still_told : (old new : Option ℕ) → new ≡ old → OnTold old (λ size. new ≡ Some size)
still_told None new same = tt
still_told (Some size) new same = same

-- the length that was told of a file is noted again, or its first
pub still_noted : (disk : Noted) (file length other : ℕ) → OnTold (told_length disk file) (λ before. length ≡ before) → OnTold (told_length disk other) (λ size. told_length (noted disk file length) other ≡ Some size)
still_noted disk file length other told = ⊎_elim
    (λ (here : other ≡ file). subst (λ n. OnTold (told_length disk n) (λ size. told_length (noted disk file length) n ≡ Some size)) (sym here) (own (told_length disk file) told))
    (λ (apart : other ≢ file). still_told (told_length disk other) _ (noted_apart disk file length other apart))
    (cases_eq other file)
  where
    own : (before : Option ℕ) → OnTold before (λ n. length ≡ n) → OnTold before (λ size. told_length (noted disk file length) file ≡ Some size)
    own None same = tt
    own (Some n) same = noted_here disk file length ∙ ap Some same
