-- What maps of rows have at a key: of changes, of tables over one another, of what was last said.
use Rattle.std.proofs.Common.{◌≡◌, ◌∙◌, sym, ap, subst, refl, List, [], ◌∷◌, Bool, true, false, cond, Option, Some, None, Result, Ok, Err}
use Rattle.std.specs.Prelude.{if◌then◌else◌, IfSome, IfOk}
use Rattle.std.specs.Ordering.{is_eq}
use Rattle.std.specs.declared.cmp.Ordering.{Ordering}
use Rattle.std.specs.declared.cmp.Ordering.TheVariants.{Less, Equal, Greater}
use Rattle.std.specs.BTreeMap.{is_at}
use Rattle.std.specs.Cmp.{eq_by_cmp_equiv}
use Rattle.std.specs.FinMap as map
use Rattle.std.specs.Map.{lookup}
use Rattle.mds_base.specs.declared.attr.Attr.{Attr}
use Rattle.mds_base.specs.declared.row_key.RowKey.{RowKey}
use Rattle.mds_base.specs.RowKeys.{row_key_cmp, RowMap}
use Rattle.mds_base.proofs.RowMaps.{row_keys_total, exact_row_keys, same_rows}
use Rattle.mds_out.specs.Disk.{Image, Contents}
use Rattle.row_store.specs.declared.change.Change.{Change}
use Rattle.row_store.specs.declared.row_store.InForce.{InForce}
use Rattle.row_store.specs.declared.row_store.RowStore.{RowStore}
use Rattle.row_store.specs.Store.{Kept, TellsAll, reading, base_of}
use Rattle.row_store.specs.Rows.{changed_all, with_row, laid_over, rows_under, rows_of}
use Rattle.row_store.specs.Value.{HaveRows, KeepsBy, Keeps}
use Rattle.sorted_table.specs.declared.table_row.Held.{Held}
use Rattle.sorted_table.specs.declared.table_row.Held.TheVariants.{Absent, Tomb, Row}
use Rattle.sorted_table.specs.declared.table_row.TableRow.{TableRow}
use Rattle.sorted_table.specs.TableRows.{IsMarked, held_of, held_in}
use Rattle.sorted_table.specs.Tables.{TableState, HasRows}

pub get-with_row : (rows : RowMap) (key : RowKey) (attr : Option Attr) (q : RowKey) → map.get (with_row rows key attr) q ≡ cond (is_at (row_key_cmp q) key) attr (map.get rows q)
get-with_row rows key None q = map.get-remove row_keys_total rows key q
get-with_row rows key (Some attr) q = map.get-insert row_keys_total rows key attr q

tied : (a b : RowKey) → is_at (row_key_cmp a) b ≡ is_at (row_key_cmp b) a
tied a b = (eq_by_cmp_equiv row_keys_total).symm a b

-- ---- tables over older rows

abbrev pub held_or : Held → Option Attr → Option Attr
held_or Absent older = older
held_or Tomb older = None
held_or (Row attr) older = Some attr

first_held : (here : Bool) (attr : Option Attr) (held : Held) (older : Option Attr) → cond here attr (held_or held older) ≡ held_or (if here then held_of attr else held) older
first_held true None held older = refl
first_held true (Some attr) held older = refl
first_held false attr held older = refl

pub get-laid_over : (older : RowMap) (table : List TableRow) (q : RowKey) → map.get (laid_over older table) q ≡ held_or (held_in table q) (map.get older q)
get-laid_over older [] q = refl
get-laid_over older (row ∷ rows) q =
    get-with_row (laid_over older rows) row.key row.attr q
    ∙ ap (λ here. cond here row.attr (map.get (laid_over older rows) q)) (tied q row.key)
    ∙ ap (cond (is_at (row_key_cmp row.key) q) row.attr) (get-laid_over older rows q)
    ∙ first_held (is_at (row_key_cmp row.key) q) row.attr (held_in rows q) (map.get older q)

-- the first table has no row of the key
pub under_absent : (table : TableState) (older : List TableState) (rows : List (List TableRow)) (image : Image) (key : RowKey) (found : Option Attr) → HaveRows (table ∷ older) rows image
    → ((said : List TableRow) → HasRows table said (image table.file) → Absent ≡ held_in said key) → ((more : List (List TableRow)) → HaveRows older more image → found ≡ map.get (rows_under more) key) → found ≡ map.get (rows_under rows) key
under_absent table older [] image key found have says more = absurd have
under_absent table older (said ∷ rest) image key found have says more =
    more rest have.1 ∙ sym (get-laid_over (rows_under rest) said key ∙ ap (λ held. held_or held (map.get (rows_under rest) key)) (sym (says said have.0)))

-- the first table has one
pub under_said : (table : TableState) (older : List TableState) (rows : List (List TableRow)) (image : Image) (key : RowKey) (held : Held) (found : Option Attr) → HaveRows (table ∷ older) rows image
    → ((said : List TableRow) → HasRows table said (image table.file) → held ≡ held_in said key) → ((older : Option Attr) → held_or held older ≡ found) → found ≡ map.get (rows_under rows) key
under_said table older [] image key held found have says is = absurd have
under_said table older (said ∷ rest) image key held found have says is =
    sym (is (map.get (rows_under rest) key)) ∙ sym (get-laid_over (rows_under rest) said key ∙ ap (λ held. held_or held (map.get (rows_under rest) key)) (sym (says said have.0)))

-- no table
pub under_none : (rows : List (List TableRow)) (image : Image) (key : RowKey) → HaveRows [] rows image → None ≡ map.get (rows_under rows) key
under_none [] image key have = sym (map.get-empty row_key_cmp key)
under_none (said ∷ rest) image key have = absurd have

-- ---- what was last said of each key

abbrev pub said_or : Option (Option Attr) → Option Attr → Option Attr
said_or None older = older
said_or (Some attr) older = attr

said_first : (here : Bool) (attr : Option Attr) (said : Option (Option Attr)) (older : Option Attr) → cond here attr (said_or said older) ≡ said_or (cond here (Some attr) said) older
said_first true attr said older = refl
said_first false attr said older = refl

pub get-said : (base : RowMap) (entries : List (RowKey × Option Attr)) (q : RowKey) → map.get (laid_over base (rows_of entries)) q ≡ said_or (lookup (is_at (row_key_cmp q)) entries) (map.get base q)
get-said base [] q = refl
get-said base (entry ∷ entries) q =
    get-with_row (laid_over base (rows_of entries)) entry.0 entry.1 q
    ∙ ap (cond (is_at (row_key_cmp q) entry.0) entry.1) (get-said base entries q)
    ∙ said_first (is_at (row_key_cmp q) entry.0) entry.1 (lookup (is_at (row_key_cmp q)) entries) (map.get base q)

-- the same said of each key makes the same map
pub same_said : (base : RowMap) (entries others : List (RowKey × Option Attr)) → ((q : RowKey) → lookup (is_at (row_key_cmp q)) others ≡ lookup (is_at (row_key_cmp q)) entries)
    → laid_over base (rows_of others) ≡ laid_over base (rows_of entries)
same_said base entries others same = same_rows (laid_over base (rows_of others)) (laid_over base (rows_of entries))
    (λ q. get-said base others q ∙ ap (λ said. said_or said (map.get base q)) (same q) ∙ sym (get-said base entries q))

-- one key more of which something is said
pub one_said : (base : RowMap) (entries others : List (RowKey × Option Attr)) (key : RowKey) (attr : Option Attr)
    → ((q : RowKey) → lookup (is_at (row_key_cmp q)) others ≡ cond (is_at (row_key_cmp key) q) (Some attr) (lookup (is_at (row_key_cmp q)) entries))
    → laid_over base (rows_of others) ≡ with_row (laid_over base (rows_of entries)) key attr
one_said base entries others key attr said = same_rows (laid_over base (rows_of others)) (with_row (laid_over base (rows_of entries)) key attr) (λ q.
    get-said base others q
    ∙ ap (λ found. said_or found (map.get base q)) (said q)
    ∙ sym (said_first (is_at (row_key_cmp key) q) attr (lookup (is_at (row_key_cmp q)) entries) (map.get base q))
    ∙ ap (λ here. cond here attr (said_or (lookup (is_at (row_key_cmp q)) entries) (map.get base q))) (tied key q)
    ∙ ap (cond (is_at (row_key_cmp q) key) attr) (sym (get-said base entries q))
    ∙ sym (get-with_row (laid_over base (rows_of entries)) key attr q))

-- a key more, of which something with a spelling is said
pub said_marked : (entries others : List (RowKey × Option Attr)) (key : RowKey) (attr : Option Attr) → IsMarked attr
    → ((q : RowKey) → lookup (is_at (row_key_cmp q)) others ≡ cond (is_at (row_key_cmp key) q) (Some attr) (lookup (is_at (row_key_cmp q)) entries))
    → ((q : RowKey) → IfSome (lookup (is_at (row_key_cmp q)) entries) IsMarked) → (q : RowKey) → IfSome (lookup (is_at (row_key_cmp q)) others) IsMarked
said_marked entries others key attr marked said old q = subst (λ (found : Option (Option Attr)). IfSome found IsMarked) (sym (said q)) (pick (is_at (row_key_cmp key) q))
  where
    pick : (here : Bool) → IfSome (cond here (Some attr) (lookup (is_at (row_key_cmp q)) entries)) IsMarked
    pick true = marked
    pick false = old q

is_equal : (r : Ordering) → is_eq r ≡ true → r ≡ Equal
is_equal Less tie = cc
is_equal Equal tie = refl
is_equal Greater tie = cc

-- what was said before is said again
pub taken_back : (entries mids others : List (RowKey × Option Attr)) (key : RowKey) (attr : Option Attr) (before : Option (Option Attr)) → before ≡ lookup (is_at (row_key_cmp key)) entries
    → ((q : RowKey) → lookup (is_at (row_key_cmp q)) mids ≡ cond (is_at (row_key_cmp key) q) (Some attr) (lookup (is_at (row_key_cmp q)) entries))
    → ((q : RowKey) → lookup (is_at (row_key_cmp q)) others ≡ cond (is_at (row_key_cmp key) q) before (lookup (is_at (row_key_cmp q)) mids))
    → (q : RowKey) → lookup (is_at (row_key_cmp q)) others ≡ lookup (is_at (row_key_cmp q)) entries
taken_back entries mids others key attr before is mid back q = back q ∙ ap (cond (is_at (row_key_cmp key) q) before) (mid q) ∙ at (is_at (row_key_cmp key) q) refl
  where
    at : (here : Bool) → is_at (row_key_cmp key) q ≡ here → cond here before (cond here (Some attr) (lookup (is_at (row_key_cmp q)) entries)) ≡ lookup (is_at (row_key_cmp q)) entries
    at true tie = is ∙ ap (λ (k : RowKey). lookup (is_at (row_key_cmp k)) entries) (exact_row_keys key q (is_equal (row_key_cmp key q) tie))
    at false apart = refl

-- ---- what is found in tables, where the disk tells its files

abbrev pub Finds : List TableState → Contents → RowKey → Option Attr → Type 0
Finds tables seen key found = TellsAll seen → (rows : List (List TableRow)) → HaveRows tables rows (reading seen) → found ≡ map.get (rows_under rows) key

abbrev pub Says : TableState → Contents → RowKey → Held → Type 0
Says table seen key held = TellsAll seen → (rows : List TableRow) → HasRows table rows (reading seen table.file) → held ≡ held_in rows key

pub finds_none : (tables : List TableState) (seen : Contents) (key : RowKey) → tables ≡ [] → Finds tables seen key None
finds_none tables seen key none = λ tells rows have. under_none rows (reading seen) key (subst (λ (t : List TableState). HaveRows t rows (reading seen)) none have)

pub finds_older : {E : Type 0} (table : TableState) (older tables : List TableState) (seen seen' : Contents) (key : RowKey) (held : Held) (result : Result (Option Attr) E) → tables ≡ table ∷ older → seen' ≡ seen → held ≡ Absent
    → Says table seen key held → IfOk result (Finds older seen' key) → IfOk result (Finds tables seen key)
finds_older {E = E} table older tables seen seen' key held result split same absent says found =
    let P : Contents → Type 0 = λ s. IfOk result (Finds older s key) in
    let Q : List TableState → Type 0 = λ t. IfOk result (Finds t seen key) in
    subst Q (sym split) (at result (subst P same found))
  where
    at : (r : Result (Option Attr) E) → IfOk r (Finds older seen key) → IfOk r (Finds (table ∷ older) seen key)
    at (Ok x) finds = λ tells rows have. under_absent table older rows (reading seen) key x have (λ said has. sym absent ∙ says tells said has) (λ more left. finds tells more left)
    at (Err e) finds = tt

pub finds_first : (table : TableState) (older tables : List TableState) (seen : Contents) (key : RowKey) (held : Held) (found : Option Attr) → tables ≡ table ∷ older → ((rest : Option Attr) → held_or held rest ≡ found)
    → Says table seen key held → Finds tables seen key found
finds_first table older tables seen key held found split is says = λ tells rows have.
    under_said table older rows (reading seen) key held found (subst (λ (t : List TableState). HaveRows t rows (reading seen)) split have) (says tells) is

-- changes that were taken one after another
pub applied : (base : RowMap) (olds puts news : List (RowKey × Option Attr)) (change : Change) (rest changes : List Change) → changes ≡ change ∷ rest
    → ((q : RowKey) → lookup (is_at (row_key_cmp q)) puts ≡ cond (is_at (row_key_cmp change.key) q) (Some change.attr) (lookup (is_at (row_key_cmp q)) olds))
    → laid_over base (rows_of news) ≡ changed_all (laid_over base (rows_of puts)) rest → laid_over base (rows_of news) ≡ changed_all (laid_over base (rows_of olds)) changes
applied base olds puts news change rest changes split said is =
    is ∙ ap (λ rows. changed_all rows rest) (one_said base olds puts change.key change.attr said) ∙ ap (changed_all (laid_over base (rows_of olds))) (sym split)

-- ---- what a store has at a key

-- it was said since the last flush
pub found_said : (base rows : RowMap) (entries : List (RowKey × Option Attr)) (key : RowKey) (attr : Option Attr) → rows ≡ laid_over base (rows_of entries) → lookup (is_at (row_key_cmp key)) entries ≡ Some attr → attr ≡ map.get rows key
found_said base rows entries key attr is said =
    sym (ap (λ (m : RowMap). map.get m key) is ∙ get-said base entries key ∙ ap (λ found. said_or found (map.get base key)) said)

pub some_under : (force : Option InForce) (tables : List TableState) (kept : Option Kept) (image : Image) → KeepsBy force tables kept image → (rows : List (List TableRow)) × HaveRows tables rows image × (base_of kept ≡ rows_under rows)
some_under None tables None image by = ([], subst (λ (t : List TableState). HaveRows t [] image) (sym by.1) tt, refl)
some_under None tables (Some kept) image by = absurd by
some_under (Some force) tables None image by = absurd by
some_under (Some force) tables (Some kept) image by = (by.rows, by.hold, by.base)

-- it was not, and is found in the tables
pub found_under : (store : RowStore) (seen : Contents) (key : RowKey) (found : Option Attr) → lookup (is_at (row_key_cmp key)) store.fresh.entries ≡ None → Finds store.tables.items seen key found → TellsAll seen → (kept : Option Kept) (rows : RowMap)
    → Keeps store kept rows (reading seen) → found ≡ map.get rows key
found_under store seen key found none finds tells kept rows keeps =
    let under = some_under store.force store.tables.items kept (reading seen) keeps.by in
    finds tells under.0 under.1 ∙ ap (λ (m : RowMap). map.get m key) (sym under.2)
    ∙ sym (ap (λ (m : RowMap). map.get m key) keeps.rows_are ∙ get-said (base_of kept) store.fresh.entries key ∙ ap (λ said. said_or said (map.get (base_of kept) key)) none)
