-- A merge goes on: blocks were read, or a key was passed.
use Rattle.std.proofs.Common.{◌≡◌, ◌≢◌, ◌∙◌, sym, ap, subst, refl, ℕ, ◌*◌, ◌<◌, Bool, true, false, List, [], ◌∷◌, map, length, get_or, replicate, zero, suc, Option, None, Some, Result, Ok, Err, arith}
use Rattle.std.specs.List.{AllByRecursion}
use Rattle.std.specs.Option.{IsSome}
use Rattle.gate_log.proofs.Scans.{known_still}
use Rattle.gate_log.specs.LogState.{IsElsewhereOld}
use Rattle.mds_base.specs.declared.row_key.RowKey.{RowKey}
use Rattle.mds_out.specs.Disk.{Image, Contents, Lengths, IsUnchanged, IsElsewhereUnchanged, LeavesOnly}
use Rattle.mds_out.proofs.Moments.{leaves_weaker}
use Rattle.mds_out.specs.Known.{OnTold}
use Rattle.sorted_table.specs.declared.builder.Builder.{Builder}
use Rattle.sorted_table.specs.declared.fault.TableFault.{TableFault}
use Rattle.sorted_table.specs.declared.fault.TableFault.TheVariants.{Device, Damaged, OutOfMemory}
use Rattle.sorted_table.specs.declared.table_row.TableRow.{TableRow}
use Rattle.sorted_table.specs.Answers.{IsMemoryAnswer, IsCopyAnswer}
use Rattle.sorted_table.specs.Blocks.{rows_in, is_above}
use Rattle.sorted_table.specs.Building.{IsBuilt, IsGrowing}
use Rattle.sorted_table.specs.TableRows.{Rises}
use Rattle.sorted_table.specs.Tables.{TableState, HasBlocks, IsReady, IsSomeTable}
use Rattle.merge_rows.specs.declared.merge.Merge.{Merge}
use Rattle.merge_rows.specs.Answers.{IsMergeAnswer}
use Rattle.merge_rows.specs.Cursors.{CursorState, at_front, least, cursor_passed, cursor_rows, lefts, IsPlaced, HasNext, AllAlong}
use Rattle.merge_rows.specs.Merging.{AreApart, AreUpto, IsPartWay, IsMerging}
use Rattle.merge_rows.specs.Runs.{StayReadable}
use Rattle.merge_rows.specs.Steps.{with_row, IsPassed, IsPassAnswer}
use Rattle.merge_rows.specs.Telling.{Tells, AllTell, AreTold, AreReady}
use Rattle.merge_rows.proofs.Along.{placed_front, lefts_front, placed_passed, along_map, least_lefts, passed_lefts}
use Rattle.merge_rows.proofs.PartWay.{below_of, upto_row, least_above, part_more}

-- ---- files that stay

-- each table's file reads as before
abbrev pub StayTold : List TableState → Contents → Contents → Type 0
StayTold tables seen seen' = AllByRecursion (λ table. seen' table.file ≡ seen table.file) tables

pub stay_unchanged : (tables : List TableState) (seen seen' : Contents) → ((file : ℕ) → seen' file ≡ seen file) → StayTold tables seen seen'
stay_unchanged [] seen seen' same = tt
stay_unchanged (table ∷ tables) seen seen' same = (same table.file, stay_unchanged tables seen seen' same)

pub stay_apart : (tables : List TableState) (file : ℕ) (seen seen' : Contents) → AreApart tables file → ((other : ℕ) → other ≢ file → seen' other ≡ seen other) → StayTold tables seen seen'
stay_apart [] file seen seen' apart same = tt
stay_apart (table ∷ tables) file seen seen' apart same = (same table.file apart.0, stay_apart tables file seen seen' apart.1 same)

pub stay_back : (tables : List TableState) (seen seen' : Contents) → StayTold tables seen seen' → StayTold tables seen' seen
stay_back [] seen seen' stay = tt
stay_back (table ∷ tables) seen seen' stay = (sym stay.0, stay_back tables seen seen' stay.1)

pub tell_before : {X : Type 0} (Has : TableState → X → List ℕ → Type 0) (tables : List TableState) (seen seen' : Contents) (xs : List X) → StayTold tables seen seen' → AllTell Has tables seen' xs → AllTell Has tables seen xs
tell_before Has [] seen seen' [] stay tell = tt
tell_before Has [] seen seen' (x ∷ xs) stay tell = absurd tell
tell_before Has (table ∷ tables) seen seen' [] stay tell = absurd tell
tell_before Has (table ∷ tables) seen seen' (x ∷ xs) stay tell = (record { bytes = tell.0.bytes; told = sym stay.0 ∙ tell.0.told; has = tell.0.has }, tell_before Has tables seen seen' xs stay.1 tell.1)

pub told_before : (tables : List TableState) (seen seen' : Contents) → StayTold tables seen seen' → AreTold tables seen → AreTold tables seen'
told_before [] seen seen' stay told = tt
told_before (table ∷ tables) seen seen' stay told = (subst IsSome (sym stay.0) told.0, told_before tables seen seen' stay.1 told.1)

ready_here : (table : TableState) (seen seen' : Contents) (sizes sizes' : Lengths) → seen' table.file ≡ seen table.file → OnTold (sizes table.file) (λ size. sizes' table.file ≡ Some size) → IsReady table seen sizes → IsReady table seen' sizes'
ready_here table seen seen' sizes sizes' same stays ready =
    let P : Option (List ℕ) → Type 0 = λ s. OnTold s (IsSomeTable table) in
    record {
      size = ready.size;
      known = known_still (sizes table.file) (sizes' table.file) ready.size ready.known stays;
      short = ready.short;
      reaches = ready.reaches;
      told = subst P (sym same) ready.told;
    }

pub ready_unchanged : (tables : List TableState) (seen seen' : Contents) (sizes sizes' : Lengths) → IsUnchanged seen seen' sizes sizes' → AreReady tables seen sizes → AreReady tables seen' sizes'
ready_unchanged [] seen seen' sizes sizes' same ready = tt
ready_unchanged (table ∷ tables) seen seen' sizes sizes' same ready = (ready_here table seen seen' sizes sizes' (same.bytes table.file) (same.lengths table.file) ready.0, ready_unchanged tables seen seen' sizes sizes' same ready.1)

pub ready_apart : (tables : List TableState) (file : ℕ) (seen seen' : Contents) (sizes sizes' : Lengths) → AreApart tables file → IsElsewhereUnchanged file seen seen' sizes sizes' → AreReady tables seen sizes → AreReady tables seen' sizes'
ready_apart [] file seen seen' sizes sizes' apart same ready = tt
ready_apart (table ∷ tables) file seen seen' sizes sizes' apart same ready =
    (ready_here table seen seen' sizes sizes' (same.bytes table.file apart.0) (same.lengths table.file apart.0) ready.0, ready_apart tables file seen seen' sizes sizes' apart.1 same ready.1)

-- other files are read as before after a crash at any moment
pub readable_apart : {D : Type 0} (moment : D → ℕ) (since : D → ℕ → Image → Type 0) (old new : D) (seen : Contents) (images : Image → Type 0) (tables : List TableState) (file : ℕ) → AreApart tables file → LeavesOnly moment since old new (IsElsewhereOld file images)
    → StayReadable moment since old new seen images tables
readable_apart moment since old new seen images [] file apart leaves = tt
readable_apart moment since old new seen images (table ∷ tables) file apart leaves =
    ((λ durable. leaves_weaker moment since old new (IsElsewhereOld file images) (λ image. OnTold (seen table.file) (λ bytes. image table.file ≡ bytes)) (one (seen table.file) durable) leaves), readable_apart moment since old new seen images tables file apart.1 leaves)
  where
    one : (told : Option (List ℕ)) → OnTold told (λ bytes. (image : Image) → images image → image table.file ≡ bytes) → (image : Image) → IsElsewhereOld file images image → OnTold told (λ bytes. image table.file ≡ bytes)
    one None durable image elsewhere = tt
    one (Some bytes) durable image elsewhere = elsewhere.others table.file apart.0 ∙ durable elsewhere.before elsewhere.was

growing_still : (b : Builder) (sizes sizes' : Lengths) → OnTold (sizes b.file) (λ size. sizes' b.file ≡ Some size) → IsGrowing b sizes → IsGrowing b sizes'
growing_still b sizes sizes' stays growing some = known_still (sizes b.file) (sizes' b.file) (4096 * b.written) (growing some) stays

-- ---- one of the tables

pub all_at : {X : Type 0} (P : X → Type 0) (xs : List X) (k : ℕ) (d : X) → k < length xs → AllByRecursion P xs → P (get_or xs k d)
all_at P [] k d within all = absurd (omega arith)
all_at P (x ∷ xs) zero d within all = all.0
all_at P (x ∷ xs) (suc k) d within all = all_at P xs k d (omega arith) all.1

pub tells_still : (table same : TableState) (seen seen' : Contents) (blocks : List (List TableRow)) → table ≡ same → ((file : ℕ) → seen' file ≡ seen file) → Tells HasBlocks same seen blocks → Tells HasBlocks table seen' blocks
tells_still table same seen seen' blocks is stay tells = subst (λ (t : TableState). Tells HasBlocks t seen' blocks) (sym is) (record { bytes = tells.bytes; told = stay same.file ∙ tells.told; has = tells.has })

-- ---- a merge that goes on

module _ (tables : List TableState) where
  -- what a merge is does not ask for more than its own file and those of the tables
  pub merging_on : (merge : Merge) (seen seen' : Contents) (sizes sizes' : Lengths) → StayTold tables seen seen' → seen' merge.builder.file ≡ seen merge.builder.file → OnTold (sizes merge.builder.file) (λ size. sizes' merge.builder.file ≡ Some size)
      → IsMerging merge tables seen sizes → IsMerging merge tables seen' sizes'
  merging_on merge seen seen' sizes sizes' stay same stays merging = record {
    apart = merging.apart;
    growing = growing_still merge.builder sizes sizes' stays merging.growing;
    placed = merging.placed;
    done = merging.done;
    built = subst (IsBuilt merge.builder merging.done) (sym same) merging.built;
    upto = merging.upto;
    part = λ blocks tell. merging.part blocks (tell_before HasBlocks tables seen seen' blocks stay tell);
  }

  -- other cursors, behind which the same is left
  pub merging_filled : (old new : Merge) (seen : Contents) (sizes : Lengths) → new.builder ≡ old.builder → new.last ≡ old.last → AllAlong IsPlaced new.cursors.items tables
      → ((blocks : List (List (List TableRow))) → AllTell HasBlocks tables seen blocks → lefts new.cursors.items blocks ≡ lefts old.cursors.items blocks) → IsMerging old tables seen sizes → IsMerging new tables seen sizes
  merging_filled old new seen sizes builder last placed same merging = record {
    apart = subst (λ (b : Builder). AreApart tables b.file) (sym builder) merging.apart;
    growing = subst (λ (b : Builder). IsGrowing b sizes) (sym builder) merging.growing;
    placed = placed;
    done = merging.done;
    built = subst (λ (b : Builder). IsBuilt b merging.done (seen b.file)) (sym builder) merging.built;
    upto = subst (λ (l : Option RowKey). AreUpto l merging.done) (sym last) merging.upto;
    part = λ blocks tell.
        let P : Option RowKey → Type 0 = λ l. IsPartWay l merging.done (lefts new.cursors.items blocks) (map rows_in blocks) in
        let Q : List (List TableRow) → Type 0 = λ left. IsPartWay old.last merging.done left (map rows_in blocks) in
        subst P (sym last) (subst Q (sym (same blocks tell)) (merging.part blocks tell));
  }

  -- blocks were read
  pub merging_read : (old new : Merge) (seen seen' : Contents) (sizes sizes' : Lengths) (before after : List CursorState) → new.builder ≡ old.builder → new.last ≡ old.last → new.cursors.items ≡ after → before ≡ old.cursors.items → AllAlong IsPlaced after tables
      → ((blocks : List (List (List TableRow))) → AllTell HasBlocks tables seen blocks → lefts after blocks ≡ lefts before blocks) → IsUnchanged seen seen' sizes sizes' → IsMerging old tables seen sizes → IsMerging new tables seen' sizes'
  merging_read old new seen seen' sizes sizes' before after builder last after_is before_is placed same unchanged merging =
      merging_on new seen seen' sizes sizes' (stay_unchanged tables seen seen' unchanged.bytes) (unchanged.bytes new.builder.file) (unchanged.lengths new.builder.file)
      (merging_filled old new seen sizes builder last (subst (λ (cs : List CursorState). AllAlong IsPlaced cs tables) (sym after_is) placed)
      (λ blocks tell. ap (λ (cs : List CursorState). lefts cs blocks) after_is ∙ same blocks tell ∙ ap (λ (cs : List CursorState). lefts cs blocks) before_is) merging)

  -- one key more
  pub merging_passed : (old new : Merge) (row : TableRow) (seen seen' : Contents) (sizes sizes' : Lengths) → IsMerging old tables seen sizes → AllAlong HasNext old.cursors.items tables → least (map cursor_rows old.cursors.items) ≡ Some row
      → IsPassed old new row.key row.attr (seen old.builder.file) (seen' old.builder.file) → IsGrowing new.builder sizes' → IsElsewhereUnchanged old.builder.file seen seen' sizes sizes' → IsMerging new tables seen' sizes'
  merging_passed old new row seen seen' sizes sizes' merging next is passed growing elsewhere =
      let below = below_of old.last row.key merging.done merging.upto passed.above in
      let P : ℕ → Type 0 = λ file. IsBuilt new.builder (with_row merging.done row.key row.attr) (seen' file) in
      record {
        apart = subst (AreApart tables) (sym passed.put.file) merging.apart;
        growing = growing;
        placed = subst (λ (cursors : List CursorState). AllAlong IsPlaced cursors tables) (sym passed.cursors) (along_map IsPlaced (cursor_passed row.key) (placed_passed row.key) old.cursors.items tables merging.placed);
        done = with_row merging.done row.key row.attr;
        built = subst P (sym passed.put.file) (passed.put.built merging.done merging.built below);
        upto = subst (λ (l : Option RowKey). AreUpto l (with_row merging.done row.key row.attr)) (sym passed.last) (upto_row row merging.done below);
        part = λ blocks tell.
            let before = tell_before HasBlocks tables seen seen' blocks (stay_apart tables old.builder.file seen seen' merging.apart elsewhere.bytes) tell in
            let part = part_more old.last merging.done (lefts old.cursors.items blocks) (map rows_in blocks) (merging.part blocks before) row below (least_lefts seen old.cursors.items tables blocks next before ∙ is) in
            let left_is = ap (λ (cursors : List CursorState). lefts cursors blocks) passed.cursors ∙ passed_lefts seen row.key old.cursors.items tables blocks next before in
            let R : Option RowKey → Type 0 = λ l. IsPartWay l (with_row merging.done row.key row.attr) (lefts new.cursors.items blocks) (map rows_in blocks) in
            let Q : List (List TableRow) → Type 0 = λ left. IsPartWay (Some row.key) (with_row merging.done row.key row.attr) left (map rows_in blocks) in
            subst R (sym passed.last) (subst Q (sym left_is) part);
      }

  -- a merge that begins
  pub merging_new : (merge : Merge) (seen : Contents) (sizes : Lengths) → AreApart tables merge.builder.file → merge.builder.written ≡ 0 → merge.cursors.items ≡ replicate (length tables) at_front → merge.last ≡ None
      → IsBuilt merge.builder [] (seen merge.builder.file) → IsMerging merge tables seen sizes
  merging_new merge seen sizes apart begun cursors last built = record {
    apart = apart;
    growing = λ some. absurd (omega (arith, some, begun));
    placed = subst (λ (cs : List CursorState). AllAlong IsPlaced cs tables) (sym cursors) (placed_front tables);
    done = [];
    built = built;
    upto = subst (λ (l : Option RowKey). AreUpto l []) (sym last) refl;
    part = λ blocks tell.
        let P : List CursorState → Type 0 = λ cs. IsPartWay merge.last [] (lefts cs blocks) (map rows_in blocks) in
        let Q : List (List TableRow) → Type 0 = λ left. IsPartWay merge.last [] left (map rows_in blocks) in
        let R : Option RowKey → Type 0 = λ l. IsPartWay l [] (map rows_in blocks) (map rows_in blocks) in
        subst P (sym cursors) (subst Q (sym (lefts_front seen tables blocks tell)) (subst R (sym last) (record { rise = rise_blocks tables seen blocks tell; above = all_first (map rows_in blocks); each = λ key. refl })));
  }
    where
      rise_blocks : (tables : List TableState) (seen : Contents) (blocks : List (List (List TableRow))) → AllTell HasBlocks tables seen blocks → AllByRecursion Rises (map rows_in blocks)
      rise_blocks [] seen [] tell = tt
      rise_blocks [] seen (one ∷ blocks) tell = absurd tell
      rise_blocks (table ∷ tables) seen [] tell = absurd tell
      rise_blocks (table ∷ tables) seen (one ∷ blocks) tell = (tell.0.has.are.rise, rise_blocks tables seen blocks tell.1)

      all_first : (lists : List (List TableRow)) → AllByRecursion (λ (rows : List TableRow). AllByRecursion (λ row. is_above None row.key ≡ true) rows) lists
      all_first [] = tt
      all_first (rows ∷ lists) = (one rows, all_first lists)
        where
          one : (rows : List TableRow) → AllByRecursion (λ row. is_above None row.key ≡ true) rows
          one [] = tt
          one (row ∷ rows) = (refl, one rows)

-- ---- answers

pub memory_answer : {T : Type 0} (tables : List TableState) (seen : Contents) (result : Result T TableFault) → IsMemoryAnswer result → IsMergeAnswer tables seen result
memory_answer tables seen (Ok x) answer = tt
memory_answer tables seen (Err Device) answer = tt
memory_answer tables seen (Err (Damaged place damage)) answer = absurd answer
memory_answer tables seen (Err OutOfMemory) answer = tt

-- one of the tables was found to be damaged
pub one_answer : {T : Type 0} (tables : List TableState) (seen : Contents) (table : TableState) (result : Result T TableFault) → (AreTold tables seen → IsSome (seen table.file)) → IsCopyAnswer (seen table.file) result → IsMergeAnswer tables seen result
one_answer tables seen table (Ok x) told answer = tt
one_answer tables seen table (Err Device) told answer = tt
one_answer tables seen table (Err OutOfMemory) told answer = tt
one_answer tables seen table (Err (Damaged place damage)) told answer = λ all. never (seen table.file) (told all) answer
  where
    never : (s : Option (List ℕ)) → IsSome s → OnTold s (λ file. ⊥) → ⊥
    never None some answer = absurd cc
    never (Some bytes) some answer = answer

pub answer_before : {T : Type 0} (tables : List TableState) (seen seen' : Contents) (result : Result T TableFault) → StayTold tables seen seen' → IsMergeAnswer tables seen' result → IsMergeAnswer tables seen result
answer_before tables seen seen' (Ok x) stay answer = tt
answer_before tables seen seen' (Err Device) stay answer = tt
answer_before tables seen seen' (Err (Damaged place damage)) stay answer = λ told. answer (told_before tables seen seen' stay told)
answer_before tables seen seen' (Err OutOfMemory) stay answer = tt

-- where the disk tells ready tables, it tells their blocks
pub all_blocks : (tables : List TableState) (seen : Contents) (sizes : Lengths) → AreReady tables seen sizes → AreTold tables seen → (blocks : List (List (List TableRow))) × AllTell HasBlocks tables seen blocks
all_blocks [] seen sizes ready told = ([], tt)
all_blocks (table ∷ tables) seen sizes ready told =
    let rest = all_blocks tables seen sizes ready.1 told.1 in
    let here = go (seen table.file) refl told.0 ready.0.told in
    (here.0 ∷ rest.0, (here.1, rest.1))
  where
    go : (s : Option (List ℕ)) → seen table.file ≡ s → IsSome s → OnTold s (IsSomeTable table) → (one : List (List TableRow)) × Tells HasBlocks table seen one
    go None is some held = absurd cc
    go (Some bytes) is some held = (held.has.blocks, record { bytes = bytes; told = is; has = held.has.has })

pub passed_answer : {T : Type 0} (tables : List TableState) (merge : Merge) (row : TableRow) (seen : Contents) (sizes : Lengths) (result : Result T TableFault) → AreReady tables seen sizes → IsMerging merge tables seen sizes → AllAlong HasNext merge.cursors.items tables
    → least (map cursor_rows merge.cursors.items) ≡ Some row → IsPassAnswer (is_above merge.last row.key) result → IsMergeAnswer tables seen result
passed_answer tables merge row seen sizes (Ok x) ready merging next is answer = tt
passed_answer tables merge row seen sizes (Err Device) ready merging next is answer = tt
passed_answer tables merge row seen sizes (Err OutOfMemory) ready merging next is answer = tt
passed_answer tables merge row seen sizes (Err (Damaged place damage)) ready merging next is answer = λ told.
    let all = all_blocks tables seen sizes ready told in
    let above = least_above merge.last merging.done (lefts merge.cursors.items all.0) (map rows_in all.0) (merging.part all.0 all.1) row (least_lefts seen merge.cursors.items tables all.0 next all.1 ∙ is) in
    let never : ◌≡◌ {A = Bool} true false = sym above ∙ answer in
    cc

pub pass_answer_as : (T S : Type 0) (above : Bool) (fault : TableFault) → IsPassAnswer {T = T} above (Err fault) → IsPassAnswer {T = S} above (Err fault)
pass_answer_as T S above Device answer = tt
pass_answer_as T S above (Damaged place damage) answer = answer
pass_answer_as T S above OutOfMemory answer = tt

pub merge_answer_as : (T S : Type 0) (tables : List TableState) (seen : Contents) (fault : TableFault) → IsMergeAnswer {T = T} tables seen (Err fault) → IsMergeAnswer {T = S} tables seen (Err fault)
merge_answer_as T S tables seen Device answer = tt
merge_answer_as T S tables seen (Damaged place damage) answer = answer
merge_answer_as T S tables seen OutOfMemory answer = tt
