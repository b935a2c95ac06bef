-- A file holds one table at most, and a damaged file holds none.
use Rattle.std.proofs.Common.{◌≡◌, ◌∙◌, sym, ap, refl, ℕ, ◌+◌, ◌*◌, ◌<◌, ◌≤◌, List, [], ◌∷◌, ◌++◌, length, take, drop, arith, length-append, inl, inr}
use Rattle.std.proofs.lemmas.List.{append-nil, take_at, drop_at}
use Rattle.md5.specs.Md5.{md5}
use Rattle.sorted_table.specs.declared.fault.TableDamage.{TableDamage}
use Rattle.sorted_table.specs.declared.fault.TableDamage.TheVariants.{Spelling, Sum}
use Rattle.sorted_table.specs.declared.table_row.TableRow.{TableRow}
use Rattle.sorted_table.specs.Blocks.{blocks_spelling, rows_in}
use Rattle.sorted_table.specs.TableFiles.{AreBlocks, HoldsTable, IsDamaged, HoldsOneTable, IsEitherTableOrDamaged, table_front, table_spelling, counts_spelling}
use Rattle.sorted_table.proofs.Filling.{AreSound, are_sound, blocks_length, left_of, same_blocks}
use Rattle.sorted_table.proofs.Verdicts.{md5_length}

front_length : (blocks : List (List TableRow)) → AreBlocks blocks → length (table_front blocks) ≡ 4096 * length blocks + 12
front_length blocks are =
    let counts : length (counts_spelling blocks) ≡ 12 = refl in
    omega (arith, length-append (blocks_spelling blocks) (counts_spelling blocks), blocks_length blocks (are_sound 4096 blocks are.filled are.all), counts)

whole_length : (blocks : List (List TableRow)) → AreBlocks blocks → length (table_spelling blocks) ≡ 4096 * length blocks + 28
whole_length blocks are = omega (arith, front_length blocks are, length-append (table_front blocks) (md5 (table_front blocks)), md5_length (table_front blocks))

nothing_later : (later : List (List TableRow)) → AreSound later → [] ≡ blocks_spelling later → later ≡ []
nothing_later [] sound e = refl
nothing_later (b ∷ later) sound e = absurd (omega (arith, ap length e, blocks_length (b ∷ later) sound))

pub one_table : HoldsOneTable
one_table rows others file h k =
    let whole : table_spelling h.blocks ≡ table_spelling k.blocks = sym h.bytes ∙ k.bytes in
    let number : length h.blocks ≡ length k.blocks = omega (arith, ap length whole, whole_length h.blocks h.are, whole_length k.blocks k.are) in
    let fronts : table_front h.blocks ≡ table_front k.blocks =
    left_of (table_front h.blocks) (table_front k.blocks) (md5 (table_front h.blocks)) (md5 (table_front k.blocks)) (omega (arith, number, front_length h.blocks h.are, front_length k.blocks k.are)) whole in
    let first = are_sound 4096 h.blocks h.are.filled h.are.all in
    let second = are_sound 4096 k.blocks k.are.filled k.are.all in
    let blocks : blocks_spelling h.blocks ≡ blocks_spelling k.blocks =
    left_of (blocks_spelling h.blocks) (blocks_spelling k.blocks) (counts_spelling h.blocks) (counts_spelling k.blocks) (omega (arith, number, blocks_length h.blocks first, blocks_length k.blocks second)) fronts in
    let l = same_blocks h.blocks k.blocks [] first second (append-nil (blocks_spelling h.blocks) ∙ blocks) in
    let same : k.blocks ≡ h.blocks = l.is ∙ ap (λ (b : List (List TableRow)). h.blocks ++ b) (nothing_later l.later l.sound l.more_is) ∙ append-nil h.blocks in
    h.rows_are ∙ ap rows_in (sym same) ∙ sym k.rows_are

pub either : IsEitherTableOrDamaged
either rows file place Spelling h (inl short) = let long = whole_length h.blocks h.are in absurd (omega (arith, ap length h.bytes, short.1))
either rows file place Spelling h (inr none) = none.none rows h
either rows file place (Sum kept found) h damage =
    let long = whole_length h.blocks h.are in
    let at : length (table_front h.blocks) ≡ place = omega (arith, ap length h.bytes, damage.place_is, front_length h.blocks h.are) in
    let sum : kept ≡ md5 (table_front h.blocks) = damage.kept_is ∙ ap (drop place) h.bytes ∙ drop_at (table_front h.blocks) (md5 (table_front h.blocks)) place at in
    let front : take place file ≡ table_front h.blocks = ap (take place) h.bytes ∙ take_at (table_front h.blocks) (md5 (table_front h.blocks)) place at in
    damage.other (sum ∙ ap md5 (sym front) ∙ sym damage.found_is)
