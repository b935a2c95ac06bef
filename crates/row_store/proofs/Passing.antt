-- Seeks through tables over one another, and through what was said since the last flush.
use Rattle.std.proofs.Common.{◌≡◌, ◌∙◌, ℕ, sym, ap, subst, refl, List, [], ◌∷◌, Bool, true, false, cond, Option, Some, None, Ok}
use Rattle.std.specs.declared.cmp.Ordering.{Ordering}
use Rattle.std.specs.declared.cmp.Ordering.TheVariants.{Less, Equal, Greater}
use Rattle.std.specs.FinMap as map
use Rattle.std.specs.Map.{lookup}
use Rattle.std.specs.BTreeMap.{is_at}
use Rattle.std.specs.Ordering.{is_lt, is_le, is_eq}
use Rattle.mds_base.specs.declared.attr.Attr.{Attr}
use Rattle.mds_base.specs.declared.row_key.RowKey.{RowKey}
use Rattle.mds_base.specs.RowKeys.{row_key_cmp, RowMap}
use Rattle.mds_base.proofs.RowMaps.{row_keys_total, exact_row_keys}
use Rattle.frame_pool.specs.Frames.{Frames, free_frames}
use Rattle.mds_out.specs.Disk.{Image, Contents, Lengths}
use Rattle.row_store.specs.Answers.{IsStoreReading}
use Rattle.row_store.specs.Rows.{laid_over, rows_under, rows_of}
use Rattle.row_store.specs.Seeks.{IsMapOf, PassesNone, IsFirst, lesser}
use Rattle.row_store.specs.declared.row_store.RowStore.{RowStore}
use Rattle.row_store.specs.Store.{Kept, TellsAll, reading}
use Rattle.row_store.specs.Value.{HaveRows, Keeps}
use Rattle.row_store.proofs.Maps.{held_or, get-laid_over, get-said, said_or, some_under, Finds}
use Rattle.sorted_table.specs.declared.table_row.Held.TheVariants.{Absent}
use Rattle.sorted_table.specs.declared.table_row.TableRow.{TableRow}
use Rattle.sorted_table.specs.Starts.{before_at}
use Rattle.sorted_table.specs.TableRows.{Rises, row_behind, key_of, held_in, held_of}
use Rattle.sorted_table.specs.Tables.{TableState, HasRows}
use Rattle.sorted_table.proofs.Looking.{turned, back, held_over}
use Rattle.sorted_table.proofs.Rising.{above_above}
use Rattle.sorted_table.proofs.Seeking.{IsDownward}

-- ---- orders

pub self_tied : (key : RowKey) → row_key_cmp key key ≡ Equal
self_tied key = go (row_key_cmp key key) refl
  where
    go : (r : Ordering) → row_key_cmp key key ≡ r → row_key_cmp key key ≡ Equal
    go Less is = let other = turned key key is in absurd cc
    go Equal is = is
    go Greater is = let other = back key key is in absurd cc

-- a key is below another, is it, or is above it
pub compare : (P : Type 0) (a b : RowKey) → (row_key_cmp a b ≡ Less → P) → (a ≡ b → P) → (row_key_cmp b a ≡ Less → P) → P
compare P a b less tied more = go (row_key_cmp a b) refl
  where
    go : (r : Ordering) → row_key_cmp a b ≡ r → P
    go Less is = less is
    go Equal is = tied (exact_row_keys a b is)
    go Greater is = more (back a b is)

pub not_both : (P : Type 0) (a b : RowKey) → row_key_cmp a b ≡ Less → row_key_cmp b a ≡ Less → P
not_both P a b less more = let greater = turned a b less in absurd cc

pub not_self : (P : Type 0) (a : RowKey) → row_key_cmp a a ≡ Less → P
not_self P a less = not_both P a a less less

-- ---- one table

is_absent : (row : TableRow) (rows : List TableRow) (key : RowKey) → (row.key ≡ key → ⊥) → held_in rows key ≡ Absent → held_in (row ∷ rows) key ≡ Absent
is_absent row rows key apart rest = go (row_key_cmp row.key key) refl
  where
    in_is : (r : Ordering) → row_key_cmp row.key key ≡ r → held_in (row ∷ rows) key ≡ cond (is_eq r) (held_of row.attr) (held_in rows key)
    in_is r is = ap (λ x. cond (is_eq x) (held_of row.attr) (held_in rows key)) is

    go : (r : Ordering) → row_key_cmp row.key key ≡ r → held_in (row ∷ rows) key ≡ Absent
    go Less is = in_is Less is ∙ rest
    go Equal is = absurd (apart (exact_row_keys row.key key is))
    go Greater is = in_is Greater is ∙ rest

-- what the first row of a table that is not before a start says of the keys that are not
pub record Seeks (table : List TableRow) (before : RowKey → Bool) (found : RowKey) : Type 0 where
  pub behind : before found ≡ false
  pub none : (key : RowKey) → before key ≡ false → row_key_cmp key found ≡ Less → held_in table key ≡ Absent

abbrev pub IsSought : List TableRow → (RowKey → Bool) → Option RowKey → Type 0
IsSought table before None = (key : RowKey) → before key ≡ false → held_in table key ≡ Absent
IsSought table before (Some found) = Seeks table before found

sought_on : (row : TableRow) (rows : List TableRow) (before : RowKey → Bool) (found : Option RowKey) → before row.key ≡ true → IsSought rows before found → IsSought (row ∷ rows) before found
sought_on row rows before None passed so = λ key behind. is_absent row rows key (λ same. differ key same behind) (so key behind)
  where
    differ : (key : RowKey) → row.key ≡ key → before key ≡ false → ⊥
    differ key same behind = let t : before row.key ≡ false = ap before same ∙ behind in absurd cc
sought_on row rows before (Some found) passed so = record {
  behind = so.behind;
  none = λ key behind less. is_absent row rows key (λ same. differ key same behind) (so.none key behind less);
}
  where
    differ : (key : RowKey) → row.key ≡ key → before key ≡ false → ⊥
    differ key same behind = let t : before row.key ≡ false = ap before same ∙ behind in absurd cc

pub sought : (table : List TableRow) (before : RowKey → Bool) → Rises table → IsSought table before (key_of (row_behind before table))
sought [] before rise = λ key behind. refl
sought (row ∷ rows) before rise = as_is (before row.key) refl (go (before row.key) refl (sought rows before rise.1))
  where
    as_is : (b : Bool) → before row.key ≡ b → IsSought (row ∷ rows) before (key_of (cond b (row_behind before rows) (Some row))) → IsSought (row ∷ rows) before (key_of (row_behind before (row ∷ rows)))
    as_is b is so = subst (λ (x : Bool). IsSought (row ∷ rows) before (key_of (cond x (row_behind before rows) (Some row)))) (sym is) so

    go : (b : Bool) → before row.key ≡ b → IsSought rows before (key_of (row_behind before rows)) → IsSought (row ∷ rows) before (key_of (cond b (row_behind before rows) (Some row)))
    go true is rest = sought_on row rows before (key_of (row_behind before rows)) is rest
    go false is rest = record {
      behind = is;
      none = λ key behind less. held_over (row ∷ rows) key (less, above_above key row.key rows less rise.0);
    }

-- ---- a table over older rows

over_absent : (older : RowMap) (table : List TableRow) (key : RowKey) → held_in table key ≡ Absent → map.get (laid_over older table) key ≡ map.get older key
over_absent older table key absent = get-laid_over older table key ∙ ap (λ held. held_or held (map.get older key)) absent

abbrev pick : Bool → RowKey → RowKey → Option RowKey
pick b one other = cond b (Some other) (Some one)

pub over : (older : RowMap) (table : List TableRow) (before : RowKey → Bool) (one other : Option RowKey) → IsSought table before one → PassesNone older before other → PassesNone (laid_over older table) before (lesser one other)
over older table before None None so passes = λ key behind. over_absent older table key (so key behind) ∙ passes key behind
over older table before None (Some other) so passes = (passes.0, λ key behind less. over_absent older table key (so key behind) ∙ passes.1 key behind less)
over older table before (Some one) None so passes = (so.behind, λ key behind less. over_absent older table key (so.none key behind less) ∙ passes key behind)
over older table before (Some one) (Some other) so passes = go (row_key_cmp other one) refl
  where
    take_other : row_key_cmp other one ≡ Less → PassesNone (laid_over older table) before (Some other)
    take_other below = (passes.0, λ key behind less. over_absent older table key (so.none key behind (row_keys_total.trans key other one less below)) ∙ passes.1 key behind less)

    below_other : (key : RowKey) → row_key_cmp key one ≡ Less → (row_key_cmp other one ≡ Less → ⊥) → row_key_cmp key other ≡ Less
    below_other key less not_below = compare (row_key_cmp key other ≡ Less) other one (λ below. absurd (not_below below)) (λ same. ap (row_key_cmp key) same ∙ less) (λ above. row_keys_total.trans key one other less above)

    take_one : (row_key_cmp other one ≡ Less → ⊥) → PassesNone (laid_over older table) before (Some one)
    take_one not_below = (so.behind, λ key behind less. over_absent older table key (so.none key behind less) ∙ passes.1 key behind (below_other key less not_below))

    as_is : (r : Ordering) → row_key_cmp other one ≡ r → PassesNone (laid_over older table) before (pick (is_lt r) one other) → PassesNone (laid_over older table) before (lesser (Some one) (Some other))
    as_is r is passed = subst (λ (x : Ordering). PassesNone (laid_over older table) before (pick (is_lt x) one other)) (sym is) passed

    go : (r : Ordering) → row_key_cmp other one ≡ r → PassesNone (laid_over older table) before (lesser (Some one) (Some other))
    go Less is = as_is Less is (take_other is)
    go Equal is = as_is Equal is (take_one (λ below. let no : Equal ≡ Less = sym is ∙ below in absurd cc))
    go Greater is = as_is Greater is (take_one (λ below. let no : Greater ≡ Less = sym is ∙ below in absurd cc))

-- ---- tables

abbrev pub FindsKey : List TableState → Contents → (RowKey → Bool) → Option RowKey → Type 0
FindsKey tables seen before found = TellsAll seen → (rows : List (List TableRow)) → HaveRows tables rows (reading seen) → PassesNone (rows_under rows) before found

abbrev pub SeeksKey : TableState → Contents → (RowKey → Bool) → Option RowKey → Type 0
SeeksKey table seen before found = TellsAll seen → (rows : List TableRow) → HasRows table rows (reading seen table.file) → found ≡ key_of (row_behind before rows)

none_under : (rows : List (List TableRow)) (image : Image) (before : RowKey → Bool) → HaveRows [] rows image → PassesNone (rows_under rows) before None
none_under [] image before have = λ key behind. map.get-empty row_key_cmp key
none_under (said ∷ rest) image before have = absurd have

pub key_none : (tables : List TableState) (seen : Contents) (before : RowKey → Bool) → tables ≡ [] → FindsKey tables seen before None
key_none tables seen before none = λ tells rows have. none_under rows (reading seen) before (subst (λ (t : List TableState). HaveRows t rows (reading seen)) none have)

table_rises : (table : TableState) (rows : List TableRow) (bytes : List ℕ) → HasRows table rows bytes → Rises rows
table_rises table rows bytes has = subst Rises (sym has.rows_are) has.has.are.rise

key_over : (table : TableState) (older : List TableState) (rows : List (List TableRow)) (image : Image) (before : RowKey → Bool) (one other : Option RowKey) → HaveRows (table ∷ older) rows image
    → ((said : List TableRow) → HasRows table said (image table.file) → one ≡ key_of (row_behind before said)) → ((more : List (List TableRow)) → HaveRows older more image → PassesNone (rows_under more) before other)
    → PassesNone (rows_under rows) before (lesser one other)
key_over table older [] image before one other have seeks more = absurd have
key_over table older (said ∷ rest) image before one other have seeks more =
    over (rows_under rest) said before one other (subst (IsSought said before) (sym (seeks said have.0)) (sought said before (table_rises table said (image table.file) have.0))) (more rest have.1)

pub key_more : (table : TableState) (older tables : List TableState) (seen seen' : Contents) (before : RowKey → Bool) (one other : Option RowKey) → tables ≡ table ∷ older → seen' ≡ seen → SeeksKey table seen before one → FindsKey older seen' before other
    → FindsKey tables seen before (lesser one other)
key_more table older tables seen seen' before one other split same seeks finds =
    let P : Contents → Type 0 = λ s. FindsKey older s before other in
    let now = subst P same finds in
    λ tells rows have. key_over table older rows (reading seen) before one other (subst (λ (t : List TableState). HaveRows t rows (reading seen)) split have) (seeks tells) (λ more left. now tells more left)

-- ---- with what was said since

pub key_all : (tables : List TableState) (entries : List (RowKey × Option Attr)) (rows : RowMap) (seen : Contents) (before : RowKey → Bool) (said older : Option RowKey) → said ≡ key_of (row_behind before (rows_of entries)) → Rises (rows_of entries)
    → FindsKey tables seen before older → TellsAll seen → IsMapOf tables entries rows (reading seen) → PassesNone rows before (lesser said older)
key_all tables entries rows seen before said older is rise finds tells m =
    subst (λ (all : RowMap). PassesNone all before (lesser said older)) (sym m.is)
    (over (rows_under m.under) (rows_of entries) before said older (subst (IsSought (rows_of entries) before) (sym is) (sought (rows_of entries) before rise)) (finds tells m.under m.have))

-- what was said of a key is what the map has
pub map_said : (tables : List TableState) (entries : List (RowKey × Option Attr)) (rows : RowMap) (image : Image) (key : RowKey) (attr : Option Attr) → lookup (is_at (row_key_cmp key)) entries ≡ Some attr → IsMapOf tables entries rows image → attr ≡ map.get rows key
map_said tables entries rows image key attr said m =
    sym (ap (λ (all : RowMap). map.get all key) m.is ∙ get-said (rows_under m.under) entries key ∙ ap (λ found. said_or found (map.get (rows_under m.under) key)) said)

-- and where nothing was said, what the tables have
pub map_under : (tables : List TableState) (entries : List (RowKey × Option Attr)) (rows : RowMap) (seen : Contents) (key : RowKey) (found : Option Attr) → lookup (is_at (row_key_cmp key)) entries ≡ None → Finds tables seen key found → TellsAll seen
    → IsMapOf tables entries rows (reading seen) → found ≡ map.get rows key
map_under tables entries rows seen key found said finds tells m =
    finds tells m.under m.have ∙ sym (ap (λ (all : RowMap). map.get all key) m.is ∙ get-said (rows_under m.under) entries key ∙ ap (λ found. said_or found (map.get (rows_under m.under) key)) said)

-- what a store keeps is such a map
pub map_of_kept : (store : RowStore) (kept : Option Kept) (rows : RowMap) (image : Image) → Keeps store kept rows image → IsMapOf store.tables.items store.fresh.entries rows image
map_of_kept store kept rows image keeps =
    let u = some_under store.force store.tables.items kept image keeps.by in
    record { under = u.0; have = u.1; is = keeps.rows_are ∙ ap (λ (base : RowMap). laid_over base (rows_of store.fresh.entries)) u.2 }

-- ---- one key after another

-- a key is before a start that is past another exactly where it is not above that
pub past_below : (place key : RowKey) → before_at place true key ≡ false → row_key_cmp place key ≡ Less
past_below place key behind = go (row_key_cmp key place) refl
  where
    go : (r : Ordering) → row_key_cmp key place ≡ r → row_key_cmp place key ≡ Less
    go Less is = let no : before_at place true key ≡ true = ap is_le is in absurd cc
    go Equal is = let no : before_at place true key ≡ true = ap is_le is in absurd cc
    go Greater is = back key place is

pub past_above : (place key : RowKey) → row_key_cmp place key ≡ Less → before_at place true key ≡ false
past_above place key less = ap is_le (turned place key less)

-- a key of which nothing stands is passed
pub passes_on : (rows : RowMap) (before : RowKey → Bool) (key : RowKey) (next : Option RowKey) → PassesNone rows before (Some key) → map.get rows key ≡ None → PassesNone rows (before_at key true) next
    → IsDownward before → PassesNone rows before next
passes_on rows before key None first none second down = λ q behind. compare (map.get rows q ≡ None) q key (λ less. first.1 q behind less) (λ same. ap (map.get rows) same ∙ none) (λ more. second q (past_above key q more))
passes_on rows before key (Some next) first none second down =
    (after, λ q behind less. compare (map.get rows q ≡ None) q key (λ below. first.1 q behind below) (λ same. ap (map.get rows) same ∙ none) (λ above. second.1 q (past_above key q above) less))
  where
    -- what is above a key that is not before the start is not before it
    after : before next ≡ false
    after = go (before next) refl
      where
        go : (b : Bool) → before next ≡ b → before next ≡ false
        go true is = let no : before key ≡ true = down key next (past_below key next second.0) is in let was : before key ≡ false = first.0 in absurd cc
        go false is = is

-- ---- a loop over keys of which nothing stands

-- the disk is as it was, and nothing stands between a start and this key
pub record IsPassing {D : Type 0} (seen : D → Contents) (sizes : D → Lengths) (images : D → Image → Type 0) (moment : D → ℕ) (since : D → ℕ → Image → Type 0) (faults : D → ℕ) (lasts fails : D → D → Type 0)
    (old now : D) (pool pool' : Frames) (tables : List TableState) (entries : List (RowKey × Option Attr)) (before : RowKey → Bool) (key : RowKey) : Type 0 where
  pub call : IsStoreReading {T = Unit {0}} seen sizes images moment since faults lasts fails old now (Ok tt)
  pub frames : free_frames pool' ≡ free_frames pool
  pub passes : TellsAll (seen old) → (rows : RowMap) → IsMapOf tables entries rows (reading (seen old)) → PassesNone rows before (Some key)

abbrev pub Passes : List TableState → List (RowKey × Option Attr) → Contents → (RowKey → Bool) → Option RowKey → Type 0
Passes tables entries seen before found = TellsAll seen → (rows : RowMap) → IsMapOf tables entries rows (reading seen) → PassesNone rows before found

abbrev pub Has : List TableState → List (RowKey × Option Attr) → Contents → RowKey → Option Attr → Type 0
Has tables entries seen key found = TellsAll seen → (rows : RowMap) → IsMapOf tables entries rows (reading seen) → found ≡ map.get rows key

abbrev pub Firsts : List TableState → List (RowKey × Option Attr) → Contents → (RowKey → Bool) → Option (RowKey × Attr) → Type 0
Firsts tables entries seen before found = TellsAll seen → (rows : RowMap) → IsMapOf tables entries rows (reading seen) → IsFirst rows before found

module _ (tables : List TableState) (entries : List (RowKey × Option Attr)) (before : RowKey → Bool) where
  -- the row of the key stands
  pub first_stands : (seen seen' : Contents) (key : RowKey) (attr : Attr) → seen' ≡ seen → Passes tables entries seen before (Some key) → Has tables entries seen' key (Some attr) → Firsts tables entries seen before (Some (key, attr))
  first_stands seen seen' key attr same passes has =
      let P : Contents → Type 0 = λ s. Has tables entries s key (Some attr) in
      let now = subst P same has in
      λ tells rows m. (passes tells rows m, sym (now tells rows m))

  -- it does not, and the search goes on behind it
  pub next_passes : (seen seen' seen'' : Contents) (key place : RowKey) (past : Bool) (next : Option RowKey) → seen' ≡ seen → seen'' ≡ seen' → IsDownward before → place ≡ key → past ≡ true → Passes tables entries seen before (Some key) → Has tables entries seen' key None
      → Passes tables entries seen'' (before_at place past) next → Passes tables entries seen before next
  next_passes seen seen' seen'' key place past next same same' down at is_past passes has more =
      let P : Contents → Type 0 = λ s. Has tables entries s key None in
      let Q : Contents → Type 0 = λ s. Passes tables entries s (before_at place past) next in
      let now = subst P same has in
      let behind = subst Q (same' ∙ same) more in
      λ tells rows m. passes_on rows before key next (passes tells rows m) (sym (now tells rows m)) (as_past rows place past at is_past (behind tells rows m)) down
    where
      as_past : (rows : RowMap) (place : RowKey) (past : Bool) → place ≡ key → past ≡ true → PassesNone rows (before_at place past) next → PassesNone rows (before_at key true) next
      as_past rows place past at is_past passed =
          let P : RowKey → Type 0 = λ p. PassesNone rows (before_at p true) next in
          let Q : Bool → Type 0 = λ b. PassesNone rows (before_at place b) next in
          subst P at (subst Q is_past passed)
