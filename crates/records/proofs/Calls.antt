-- The reader of calls reads them exactly.
use Rattle.std.proofs.Common.{◌≡◌, ◌∙◌, sym, ap, subst, refl, ℕ, ◌-◌, ◌^◌, ◌<◌, ◌≤◌, ◌==◌, Bool, true, false, cond, List, [], ◌∷◌, ◌++◌, length, lit≤, lit<, arith, Some, None, nat_lt, Result, Ok}
use Rattle.std.specs.Int.{w64, to_be_bytes}
use Rattle.std.proofs.lemmas.Bool.Decides.{nat_tests}
use Rattle.std.proofs.lemmas.Bool.{eqb-true}
use Rattle.std.proofs.lemmas.List.{append-nil}
use Rattle.mds_base.specs.declared.attr.Stamp.{Stamp}
use Rattle.mds_base.specs.declared.call.Call.{Call}
use Rattle.mds_base.specs.declared.call.Call.TheVariants.{Create, Mkdir, Remove, Lookup, Setattr, Scan, Grab, Load, Link, Seal, Unseal, Kill, Unlink}
use Rattle.mds_base.specs.declared.row.Row.{Row}
use Rattle.records.specs.declared.kinds.TheConstants as kinds
use Rattle.records.specs.Rows.{AreRising, rows_spelling}
use Rattle.records.specs.Spelling.{IsDirectory, call_spelling}
use Rattle.records.proofs.Changes.{LoadRows, ChangeParts}
use Rattle.records.specs.declared.fault.Fault.{Fault}
use Rattle.records.specs.Faults.{◌>>=◌}
use Rattle.records.specs.Reading.{set_after, named_after, other_after, call_after, rows_at, call_kinds, call_at}
use Rattle.records.proofs.Decoding.{Follows, Ends, follows_here}
use Rattle.records.proofs.ToCome.{Then, Goes, goes_plainly, go_in_turn, same_goes, goes_by_test}
use Rattle.records.proofs.Rows.{RowsText, rows_read}
use Rattle.records.proofs.Fields.{OneByte, is_among, among_reads, NumberOf, number_reads}
use Rattle.records.proofs.Shapes.{Shape, Done, Byte, Number, Name, If, Args, Ranged, value_of, joined, Of, Sound, shape_reads, join_is, text_of, AllOf, each_of}

-- a call that a log keeps, and its spelling
pub record CallText (missing : ℕ) (text : List ℕ) (call : Call) : Type 0 where
  pub change : ChangeParts missing call
  pub text_is : text ≡ call_spelling call

-- the stamp of an owner and a time
abbrev stamp_of : ℕ → ℕ → Stamp
stamp_of owner mtime = record { owner = owner; mtime = mtime }

-- a directory number, and an epoch
abbrev pub directory : {X : Type 0} → (ℕ → Shape X) → Shape X
directory f = Number 8 1 (2 ^ 48 - 1) f

abbrev epoch : {X : Type 0} → (ℕ → Shape X) → Shape X
epoch f = Number 8 0 (2 ^ 48 - 1) f

abbrev set_shape : ℕ → ℕ → List ℕ → ℕ → ℕ → Shape Call
set_shape kind dir name mode size = If (kind == kinds.CALL_SETATTR) (Done (Setattr dir name mode size None)) (Number 4 0 (2 ^ 32 - 1) (λ owner. Number 8 0 (2 ^ 64 - 1) (λ mtime. Done (Setattr dir name mode size (Some (stamp_of owner mtime))))))

abbrev named_shape : ℕ → ℕ → List ℕ → Shape Call
named_shape kind dir name =
    If (kind == kinds.CALL_CREATE) (Done (Create dir name)) (If (kind == kinds.CALL_MKDIR) (Done (Mkdir dir name)) (If (kind == kinds.CALL_REMOVE) (Done (Remove dir name))
    (If (kind == kinds.CALL_GRAB) (Number 4 1 4096 (λ count. Done (Grab dir name count))) (If (kind == kinds.CALL_LINK) (directory (λ id. Done (Link dir name id))) (If (kind == kinds.CALL_UNLINK) (directory (λ id. Done (Unlink dir name id)))
    (Number 2 0 4095 (λ mode. Number 8 0 (2 ^ 64 - 1) (λ size. set_shape kind dir name mode size))))))))

abbrev after_shape : ℕ → ℕ → Shape Call
after_shape kind dir =
    If (kind == kinds.CALL_SEAL) (Number 4 0 1023 (λ part. epoch (λ e. Done (Seal dir part e)))) (If (kind == kinds.CALL_UNSEAL) (Number 4 0 1023 (λ part. epoch (λ e. Done (Unseal dir part e))))
    (If (kind == kinds.CALL_KILL) (epoch (λ e. Done (Kill dir e))) (Name (named_shape kind dir))))

abbrev call_shape : Shape Call
call_shape = Byte (is_among call_kinds) (λ kind. directory (after_shape kind))

set_sound : (kind dir : ℕ) (name : List ℕ) (mode size : ℕ) → Sound (set_shape kind dir name mode size)
set_sound kind dir name mode size = (λ _. tt, λ _. (omega arith, lit< tt, λ owner _ _. (omega arith, lit< tt, λ mtime _ _. tt)))

named_sound : (kind dir : ℕ) (name : List ℕ) → Sound (named_shape kind dir name)
named_sound kind dir name = (
  λ _. tt,
  λ _. (
    λ _. tt,
    λ _. (
      λ _. tt,
      λ _. (
        λ _. (lit≤ tt, lit< tt, λ count _ _. tt),
        λ _. (
          λ _. (lit≤ tt, lit< tt, λ id _ _. tt),
          λ _. (
            λ _. (lit≤ tt, lit< tt, λ id _ _. tt),
            λ _.
                (omega arith, lit< tt, λ mode _ _. (omega arith, lit< tt, λ size _ _. set_sound kind dir name mode size)),
          ),
        ),
      ),
    ),
  ),
)

after_sound : (kind dir : ℕ) → Sound (after_shape kind dir)
after_sound kind dir = (λ _. (omega arith, lit< tt, λ part _ _. (omega arith, lit< tt, λ e _ _. tt)), λ _. (λ _. (omega arith, lit< tt, λ part _ _. (omega arith, lit< tt, λ e _ _. tt)), λ _. (λ _. (omega arith, lit< tt, λ e _ _. tt), λ _. λ name _. named_sound kind dir name)))

call_sound : Sound call_shape
call_sound = ((kinds.CALL_CREATE, lit< tt, refl), λ kind _. (lit≤ tt, lit< tt, λ dir _ _. after_sound kind dir))

pub lt_on : (a b : ℕ) → a < b → nat_lt a b ≡ true
lt_on a b lt = grind (arith, nat_tests)

pub lt_of : (a b : ℕ) → nat_lt a b ≡ true → a < b
lt_of a b on = grind (arith, nat_tests)

pub in_directory : (number : ℕ) → (1 ≤ number) × (number ≤ 2 ^ 48 - 1) → IsDirectory number
in_directory number range = let high = range.1 in (range.0, omega arith)

pub of_directory : (number : ℕ) → IsDirectory number → (1 ≤ number) × (number ≤ 2 ^ 48 - 1)
of_directory number is = let high = is.1 in (is.0, omega arith)

below : (n most : ℕ) → (0 ≤ n) × (n ≤ most) → n ≤ most
below n most range = range.1

-- what is read after a kind and a directory is a call of this kind, and its spelling
abbrev OfKind : ℕ → Type 0
OfKind kind = (n dir : ℕ) → IsDirectory dir → (a : Args (after_shape kind dir)) → Ranged (after_shape kind dir) a → CallText n (kind ∷ joined (to_be_bytes w64 dir) (after_shape kind dir) a) (value_of (after_shape kind dir) a)

create_made : OfKind kinds.CALL_CREATE
create_made n dir is a r = record { change = (is, r.0); text_is = refl }

mkdir_made : OfKind kinds.CALL_MKDIR
mkdir_made n dir is a r = record { change = (is, r.0); text_is = refl }

remove_made : OfKind kinds.CALL_REMOVE
remove_made n dir is a r = record { change = (is, r.0); text_is = refl }

setattr_made : OfKind kinds.CALL_SETATTR
setattr_made n dir is a r = let size = r.1.1.0.1 in record { change = (is, r.0, r.1.0.1, omega arith, tt); text_is = refl }

stamp_made : OfKind kinds.CALL_STAMP
stamp_made n dir is a r = let size = r.1.1.0.1 in let owner = r.1.1.1.0.1 in let mtime = r.1.1.1.1.0.1 in record { change = (is, r.0, r.1.0.1, omega arith, (omega arith, omega arith)); text_is = refl }

grab_made : OfKind kinds.CALL_GRAB
grab_made n dir is a r = record { change = (is, r.0, r.1.0.0, r.1.0.1); text_is = refl }

link_made : OfKind kinds.CALL_LINK
link_made n dir is a r = record { change = (is, r.0, in_directory a.1.0 r.1.0); text_is = refl }

unlink_made : OfKind kinds.CALL_UNLINK
unlink_made n dir is a r = record { change = (is, r.0, in_directory a.1.0 r.1.0); text_is = refl }

seal_made : OfKind kinds.CALL_SEAL
seal_made n dir is a r = let part = r.0.1 in let e = r.1.0.1 in record { change = (is, omega arith, omega arith); text_is = refl }

unseal_made : OfKind kinds.CALL_UNSEAL
unseal_made n dir is a r = let part = r.0.1 in let e = r.1.0.1 in record { change = (is, omega arith, omega arith); text_is = refl }

kill_made : OfKind kinds.CALL_KILL
kill_made n dir is a r = let e = r.0.1 in record { change = (is, omega arith); text_is = refl }

-- what is made of a kind other than a load's
abbrev OfOther : ℕ → Type 0
OfOther kind = (kind == kinds.CALL_LOAD) ≡ false → OfKind kind

calls_made : AllOf OfOther call_kinds
calls_made = (λ _. create_made, (λ _. mkdir_made, (λ _. remove_made, (λ _. setattr_made, (λ _. grab_made, (λ load. absurd cc, (λ _. link_made, (λ _. stamp_made, (λ _. seal_made, (λ _. unseal_made, (λ _. kill_made, (λ _. unlink_made, tt))))))))))))

-- a load of a directory
pub record LoadText (dir missing : ℕ) (text : List ℕ) (call : Call) : Type 0 where
  pub rows : List Row
  pub call_is : call ≡ Load dir rows
  pub load : LoadRows missing rows
  pub text_is : text ≡ rows_spelling false rows

abbrev LoadParts : ℕ → ℕ → List ℕ → Call → Type 0
LoadParts dir = Then (RowsText false 1 4096) (λ rows _. Ends (Load dir rows))

load_there : (dir n : ℕ) (text : List ℕ) (call : Call) → LoadParts dir n text call → LoadText dir n text call
load_there dir n text call s =
    let none = s.second.none in
    let r = s.first in
    let same : n - length s.back ≡ n = let long = ap length none in omega arith in
    record {
      rows = s.value;
      call_is = s.second.is;
      load = record { some = r.some; few = r.few; rising = subst (λ (m : ℕ). AreRising false m None s.value) same r.rising; each = r.each };
      text_is = s.parts ∙ ap (λ (u : List ℕ). s.front ++ u) none ∙ append-nil s.front ∙ r.text_is;
    }

load_back : (dir n : ℕ) (text : List ℕ) (call : Call) → LoadText dir n text call → LoadParts dir n text call
load_back dir n text call s =
    let same : n ≡ n - 0 = omega arith in
    record {
      front = text;
      back = [];
      value = s.rows;
      parts = sym (append-nil text);
      first = record { some = s.load.some; few = s.load.few; rising = subst (λ (m : ℕ). AreRising false m None s.rows) same s.load.rising; each = s.load.each; due = λ is _. absurd cc; text_is = s.text_is };
      second = record { none = refl; is = s.call_is };
    }

load_goes : (dir : ℕ) → Goes (LoadText dir) (λ bytes. rows_at false 1 4096 bytes >>= λ rows. Ok (Load dir rows.0, rows.1))
load_goes dir = same_goes (load_there dir) (load_back dir) (go_in_turn (rows_read false 1 4096 (lit≤ tt) (lit< tt)) (λ text rows s. (goes_plainly (follows_here (Load dir rows))).reads) (λ n text rows s. (goes_plainly (follows_here (Load dir rows))).opens))

other_parts : (kind dir : ℕ) → Follows (Of (after_shape kind dir)) (other_after kind dir)
unfolding other_after named_after set_after
other_parts kind dir = shape_reads (after_shape kind dir) (after_sound kind dir)

-- what follows a kind and a directory
abbrev CallRest : ℕ → ℕ → ℕ → List ℕ → Call → Type 0
CallRest kind dir n text call = cond (kind == kinds.CALL_LOAD) (LoadText dir n text call) (Of (after_shape kind dir) text call)

rest_goes : (kind dir : ℕ) → Goes (CallRest kind dir) (call_after kind dir)
unfolding call_after
rest_goes kind dir = goes_by_test (kind == kinds.CALL_LOAD) (λ _. load_goes dir) (λ _. goes_plainly (other_parts kind dir))

abbrev CallParts : ℕ → List ℕ → Call → Type 0
CallParts = Then (λ _. OneByte (is_among call_kinds)) (λ kind. Then (λ _. NumberOf 8 1 (2 ^ 48 - 1)) (λ dir. CallRest kind dir))

-- what asks nothing of bytes to come, and then what may
pub go_after : {X Y : Type 0} {G : List ℕ → X → Type 0} {H : X → ℕ → List ℕ → Y → Type 0} {f : List ℕ → Result (X × List ℕ) Fault} {g : X → List ℕ → Result (Y × List ℕ) Fault} → Follows G f → ((x : X) → Goes (H x) (g x)) → Goes (Then (λ _. G) H) (λ bytes. f bytes >>= λ p. g p.0 p.1)
go_after one next = go_in_turn (goes_plainly one) (λ text x s. (next x).reads) (λ n text x s. (next x).opens)

call_parts : Goes CallParts call_at
unfolding call_at
call_parts = go_after (among_reads call_kinds kinds.CALL_CREATE (lit< tt) refl) (λ kind. go_after (number_reads 1 (2 ^ 48 - 1) (lit≤ tt) 8 (lit< tt)) (λ dir. rest_goes kind dir))

-- what is read along the shape of another call
shape_parts : (n : ℕ) (text : List ℕ) (call : Call) (o : Of call_shape text call) → (o.args.0 == kinds.CALL_LOAD) ≡ false → CallParts n text call
shape_parts n text call o other = record {
  front = o.args.0 ∷ [];
  back = joined (to_be_bytes w64 o.args.1.0) (after_shape o.args.0 o.args.1.0) o.args.1.1;
  value = o.args.0;
  parts = o.text_is;
  first = record { text_is = refl; byte = o.ranged.0.0; passes = o.ranged.0.1 };
  second = record {
    front = to_be_bytes w64 o.args.1.0;
    back = text_of (after_shape o.args.0 o.args.1.0) o.args.1.1;
    value = o.args.1.0;
    parts = join_is (to_be_bytes w64 o.args.1.0) (after_shape o.args.0 o.args.1.0) o.args.1.1;
    first = record { low = o.ranged.1.0.0; high = o.ranged.1.0.1; text_is = refl };
    second = subst (λ (b : Bool). cond b (LoadText o.args.1.0 n (text_of (after_shape o.args.0 o.args.1.0) o.args.1.1) call) (Of (after_shape o.args.0 o.args.1.0) (text_of (after_shape o.args.0 o.args.1.0) o.args.1.1) call)) (sym other) (record { args = o.args.1.1; ranged = o.ranged.1.1; text_is = refl; value_is = o.value_is });
  };
}

call_there : (n : ℕ) (text : List ℕ) (call : Call) → CallParts n text call → CallText n text call
call_there n text call s = go (s.value == kinds.CALL_LOAD) refl s.second.second
  where
    d : Then (λ _. NumberOf 8 1 (2 ^ 48 - 1)) (λ dir. CallRest s.value dir) n s.back call
    d = s.second

    front : text ≡ s.value ∷ (to_be_bytes w64 d.value ++ d.back)
    front = s.parts ∙ ap (λ (t : List ℕ). t ++ s.back) s.first.text_is ∙ ap (λ (t : List ℕ). s.value ∷ t) (d.parts ∙ ap (λ (t : List ℕ). t ++ d.back) d.first.text_is)

    go : (b : Bool) → (s.value == kinds.CALL_LOAD) ≡ b → cond b (LoadText d.value n d.back call) (Of (after_shape s.value d.value) d.back call) → CallText n text call
    go true is l =
        let load : s.value ≡ kinds.CALL_LOAD = eqb-true s.value kinds.CALL_LOAD is in
        subst (CallText n text) (sym l.call_is) (record { change = (in_directory d.value (d.first.low, d.first.high), l.load); text_is = front ∙ ap (λ (k : ℕ). k ∷ (to_be_bytes w64 d.value ++ d.back)) load ∙ ap (λ (t : List ℕ). kinds.CALL_LOAD ∷ (to_be_bytes w64 d.value ++ t)) l.text_is })
    go false other o =
        let made = each_of OfOther call_kinds calls_made s.value s.first.passes other n d.value (in_directory d.value (d.first.low, d.first.high)) o.args o.ranged in
        let joins = join_is (to_be_bytes w64 d.value) (after_shape s.value d.value) o.args in
        subst (CallText n text) (sym o.value_is) (record { change = made.change; text_is = front ∙ ap (λ (t : List ℕ). s.value ∷ (to_be_bytes w64 d.value ++ t)) o.text_is ∙ ap (λ (t : List ℕ). s.value ∷ t) (sym joins) ∙ made.text_is })

call_back : (n : ℕ) (text : List ℕ) (call : Call) → CallText n text call → CallParts n text call
call_back n text (Load dir rows) s = record {
  front = kinds.CALL_LOAD ∷ [];
  back = to_be_bytes w64 dir ++ rows_spelling false rows;
  value = kinds.CALL_LOAD;
  parts = s.text_is;
  first = record { text_is = refl; byte = lit< tt; passes = refl };
  second = record {
    front = to_be_bytes w64 dir;
    back = rows_spelling false rows;
    value = dir;
    parts = refl;
    first = record { low = (of_directory dir s.change.0).0; high = (of_directory dir s.change.0).1; text_is = refl };
    second = record { rows = rows; call_is = refl; load = s.change.1; text_is = refl };
  };
}
call_back n text (Create dir name) s =
    shape_parts n text (Create dir name) (record { args = (kinds.CALL_CREATE, (dir, (name, tt))); ranged = ((lit< tt, refl), (of_directory dir s.change.0, (s.change.1, tt))); text_is = s.text_is; value_is = refl }) refl
call_back n text (Mkdir dir name) s =
    shape_parts n text (Mkdir dir name) (record { args = (kinds.CALL_MKDIR, (dir, (name, tt))); ranged = ((lit< tt, refl), (of_directory dir s.change.0, (s.change.1, tt))); text_is = s.text_is; value_is = refl }) refl
call_back n text (Remove dir name) s =
    shape_parts n text (Remove dir name) (record { args = (kinds.CALL_REMOVE, (dir, (name, tt))); ranged = ((lit< tt, refl), (of_directory dir s.change.0, (s.change.1, tt))); text_is = s.text_is; value_is = refl }) refl
call_back n text (Setattr dir name mode size None) s =
    let fits = s.change.3 in shape_parts n text (Setattr dir name mode size None) (record { args = (kinds.CALL_SETATTR, (dir, (name, (mode, (size, tt))))); ranged = ((lit< tt, refl), (of_directory dir s.change.0, (s.change.1, ((omega arith, s.change.2), ((omega arith, omega arith), tt))))); text_is = s.text_is; value_is = refl }) refl
call_back n text (Setattr dir name mode size (Some stamp)) s =
    let fits = s.change.3 in
    let owner = s.change.4.0 in
    let mtime = s.change.4.1 in shape_parts n text (Setattr dir name mode size (Some stamp)) (record {
      args = (kinds.CALL_STAMP, (dir, (name, (mode, (size, (stamp.owner, (stamp.mtime, tt)))))));
      ranged = ((lit< tt, refl), (of_directory dir s.change.0, (s.change.1, ((omega arith, s.change.2), ((omega arith, omega arith), ((omega arith, omega arith), ((omega arith, omega arith), tt)))))));
      text_is = s.text_is;
      value_is = refl;
    }) refl
call_back n text (Grab dir name count) s =
    shape_parts n text (Grab dir name count) (record { args = (kinds.CALL_GRAB, (dir, (name, (count, tt)))); ranged = ((lit< tt, refl), (of_directory dir s.change.0, (s.change.1, ((s.change.2, s.change.3), tt)))); text_is = s.text_is; value_is = refl }) refl
call_back n text (Link dir name id) s =
    shape_parts n text (Link dir name id) (record { args = (kinds.CALL_LINK, (dir, (name, (id, tt)))); ranged = ((lit< tt, refl), (of_directory dir s.change.0, (s.change.1, (of_directory id s.change.2, tt)))); text_is = s.text_is; value_is = refl }) refl
call_back n text (Unlink dir name id) s =
    shape_parts n text (Unlink dir name id) (record { args = (kinds.CALL_UNLINK, (dir, (name, (id, tt)))); ranged = ((lit< tt, refl), (of_directory dir s.change.0, (s.change.1, (of_directory id s.change.2, tt)))); text_is = s.text_is; value_is = refl }) refl
call_back n text (Seal dir part e) s =
    let low = s.change.1 in let high = s.change.2 in shape_parts n text (Seal dir part e) (record { args = (kinds.CALL_SEAL, (dir, (part, (e, tt)))); ranged = ((lit< tt, refl), (of_directory dir s.change.0, ((omega arith, omega arith), ((omega arith, omega arith), tt)))); text_is = s.text_is; value_is = refl }) refl
call_back n text (Unseal dir part e) s =
    let low = s.change.1 in let high = s.change.2 in shape_parts n text (Unseal dir part e) (record { args = (kinds.CALL_UNSEAL, (dir, (part, (e, tt)))); ranged = ((lit< tt, refl), (of_directory dir s.change.0, ((omega arith, omega arith), ((omega arith, omega arith), tt)))); text_is = s.text_is; value_is = refl }) refl
call_back n text (Kill dir e) s =
    let high = s.change.1 in shape_parts n text (Kill dir e) (record { args = (kinds.CALL_KILL, (dir, (e, tt))); ranged = ((lit< tt, refl), (of_directory dir s.change.0, ((omega arith, omega arith), tt))); text_is = s.text_is; value_is = refl }) refl
call_back n text (Lookup dir name) s = absurd s.change
call_back n text (Scan dir) s = absurd s.change

pub call_goes : Goes CallText call_at
call_goes = same_goes call_there call_back call_parts
