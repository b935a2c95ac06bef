-- A turn that ends the merge.
use Rattle.std.proofs.Common.{◌≡◌, ◌∙◌, sym, ap, subst, refl, List, [], ◌∷◌, map, Result, Ok, Err}
use Rattle.mds_base.specs.declared.row_key.RowKey.{RowKey}
use Rattle.mds_out.specs.Disk.{Contents, Lengths}
use Rattle.sorted_table.specs.declared.fault.TableFault.{TableFault}
use Rattle.sorted_table.specs.declared.table_row.TableRow.{TableRow}
use Rattle.sorted_table.specs.declared.table_row.Held.TheVariants.{Absent}
use Rattle.sorted_table.specs.Blocks.{rows_in}
use Rattle.sorted_table.specs.Tables.{TableState, HasBlocks, HasRows}
use Rattle.merge_rows.specs.declared.merge.Merge.{Merge}
use Rattle.merge_rows.specs.declared.merge.Turn.{Turn}
use Rattle.merge_rows.specs.declared.merge.Turn.TheVariants.{More, Finished}
use Rattle.merge_rows.specs.Cursors.{lefts}
use Rattle.merge_rows.specs.Merged.{newest, IsMerged}
use Rattle.merge_rows.specs.Merging.{IsMerging}
use Rattle.merge_rows.specs.Telling.{AllTell}
use Rattle.merge_rows.specs.Turns.{IfFinished}
use Rattle.merge_rows.proofs.PartWay.{part_all}
use Rattle.merge_rows.proofs.Stepping.{StayTold, stay_back, tell_before}

pub if_finished : (result : Result Turn TableFault) (P Q : TableState → Type 0) → ((table : TableState) → P table → Q table) → IfFinished result P → IfFinished result Q
if_finished (Ok (More merge)) P Q weaker here = tt
if_finished (Ok (Finished table)) P Q weaker here = weaker table here
if_finished (Err fault) P Q weaker here = tt

-- tables of rows are tables of blocks
pub record InBlocks (tables : List TableState) (seen : Contents) (lists : List (List TableRow)) : Type 0 where
  pub blocks : List (List (List TableRow))
  pub tell : AllTell HasBlocks tables seen blocks
  pub are : lists ≡ map rows_in blocks

pub in_blocks : (tables : List TableState) (seen : Contents) (lists : List (List TableRow)) → AllTell HasRows tables seen lists → InBlocks tables seen lists
in_blocks [] seen [] tell = record { blocks = []; tell = tt; are = refl }
in_blocks [] seen (rows ∷ lists) tell = absurd tell
in_blocks (table ∷ tables) seen [] tell = absurd tell
in_blocks (table ∷ tables) seen (rows ∷ lists) tell =
    let rest = in_blocks tables seen lists tell.1 in
    record {
      blocks = tell.0.has.blocks ∷ rest.blocks;
      tell = (record { bytes = tell.0.bytes; told = tell.0.told; has = tell.0.has.has }, rest.tell);
      are = ap (λ (l : List TableRow). l ∷ lists) tell.0.has.rows_are ∙ ap (λ (l : List (List TableRow)). rows_in tell.0.has.blocks ∷ l) rest.are;
    }

-- once no row is left, the rows that were added are those that the tables make
pub merged_rows : (tables : List TableState) (merge : Merge) (seen seen' seen'' : Contents) (sizes'' : Lengths) → StayTold tables seen seen' → StayTold tables seen' seen'' → (merging : IsMerging merge tables seen'' sizes'')
    → ((blocks : List (List (List TableRow))) → AllTell HasBlocks tables seen' blocks → (key : RowKey) → newest (lefts merge.cursors.items blocks) key ≡ Absent)
    → (lists : List (List TableRow)) → AllTell HasRows tables seen lists → IsMerged lists merging.done
merged_rows tables merge seen seen' seen'' sizes'' stay stay' merging none lists tell =
    let b = in_blocks tables seen lists tell in
    let first = tell_before HasBlocks tables seen' seen b.blocks (stay_back tables seen seen' stay) b.tell in
    let second = tell_before HasBlocks tables seen'' seen' b.blocks (stay_back tables seen' seen'' stay') first in
    subst (λ (l : List (List TableRow)). IsMerged l merging.done) (sym b.are)
    (part_all merge.last merging.done (lefts merge.cursors.items b.blocks) (map rows_in b.blocks) (merging.part b.blocks second) merging.built.builds.rise (none b.blocks first))
