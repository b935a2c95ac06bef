-- The reader of the finals of a call reads them exactly: those that the plain rules allow for it on some map.
use Rattle.std.proofs.Common.{◌≡◌, ◌∙◌, sym, ap, subst, refl, ℕ, zero, suc, ◌+◌, ◌-◌, ◌*◌, ◌/◌, ◌%◌, ◌^◌, ◌<◌, ◌≤◌, ◌==◌, Bool, true, false, cond, List, [], ◌∷◌, ◌++◌, length, lit≤, lit<, arith, Option, Some, None, MatchOption, min, if◌then◌else◌, inl, inr, ◌⊎◌}
use Rattle.std.specs.Cmp.{eq_by_cmp_equiv}
use Rattle.std.specs.FinMap as map
use Rattle.std.specs.Int.{w64, to_be_bytes, bytes_high_first, byte_at}
use Rattle.std.proofs.Math.Nat.{div-div-eq-div-mul, div-one, mul_comm, pow-suc}
use Rattle.std.proofs.lemmas.Bool.Decides.{nat_tests}
use Rattle.std.proofs.lemmas.Bool.{eq-eqb}
use Rattle.mds_base.specs.declared.attr.Attr.{Attr}
use Rattle.mds_base.specs.declared.call.Call.{Call}
use Rattle.mds_base.specs.declared.call.Call.TheVariants.{Create, Mkdir, Remove, Lookup, Setattr, Scan, Grab, Load, Link, Seal, Unseal, Kill, Unlink}
use Rattle.mds_base.specs.declared.reply.Final.{Final}
use Rattle.mds_base.specs.declared.reply.Final.TheVariants.{Created, CreatedDir, Exists, Removed, Missing, IsDir, Set, Ids, Loaded, Stale, Sealed, NotEmpty, Late, Opened, Killed}
use Rattle.mds_base.specs.declared.reply.Reply.TheVariants.{Said}
use Rattle.mds_base.specs.Entries.{Place, place_cmp, Entries, new_file, new_directory, is_file}
use Rattle.mds_base.specs.declared.row.Row.{Row}
use Rattle.mds_base.specs.PlainRules.{SealAllows, added}
use Rattle.mds_base.proofs.Places.{places_total}
use Rattle.records.specs.declared.kinds.TheConstants as kinds
use Rattle.records.specs.Spelling.{IsDirectory, MaySay, IsNumbered, tag_of, number_of, final_spelling}
use Rattle.records.specs.Reading.{byte_among, tags_of, least_of, most_of, final_of, is_low, sealed_at, final_at}
use Rattle.records.proofs.Changes.{ChangeParts}
use Rattle.records.proofs.Decoding.{Follows, same_follows}
use Rattle.records.proofs.ToCome.{Opens, goes_plainly}
use Rattle.records.proofs.Loads.{distinct_of, added_most, reached}
use Rattle.records.proofs.Fields.{is_among}
use Rattle.records.proofs.Shapes.{Shape, Done, Byte, Number, If, Args, Ranged, value_of, joined, Of, Sound, shape_reads, AllOf, each_of}
use Rattle.records.proofs.Calls.{in_directory, of_directory}

-- a final that may be said to the call, and its spelling
pub record FinalText (call : Call) (text : List ℕ) (said : Final) : Type 0 where
  pub reply : MaySay call said
  pub numbered : IsNumbered said
  pub text_is : text ≡ final_spelling said

abbrev pub sealed_shape : Shape Final
sealed_shape = Number 7 0 (2 ^ 44 - 1) (λ high. Byte is_low (λ low. Done (Sealed (low % 16) (high * 16 + low / 16))))

-- what follows the tag
abbrev tag_shape : Call → ℕ → Shape Final
tag_shape call tag = If (tag == kinds.FINAL_SEALED) sealed_shape (Number 8 (least_of call tag) (most_of call tag) (λ number. Done (final_of tag number)))

abbrev final_shape : Call → Shape Final
final_shape call = Byte (is_among (tags_of call)) (tag_shape call)

-- a range of numbers of eight bytes
abbrev pub IsRange : ℕ → ℕ → Type 0
IsRange least most = (least ≤ most) × (most < 256 ^ 8)

range_of : (a b : Bool) → IsRange (cond a 1 (cond b 2 0)) (cond a (2 ^ 48 - 1) (cond b (2 ^ 45) 0))
range_of true b = (lit≤ tt, lit< tt)
range_of false true = (lit≤ tt, lit< tt)
range_of false false = (lit≤ tt, lit< tt)

link_range : (id : ℕ) (a : Bool) → IsDirectory id → IsRange (cond a id 0) (cond a id 0)
link_range id true is = let high = is.1 in (omega arith, omega arith)
link_range id false is = (lit≤ tt, lit< tt)

load_range : (count : ℕ) (a : Bool) → IsRange 0 (cond a (min count 4096) 0)
load_range count true = (omega arith, omega arith)
load_range count false = (lit≤ tt, lit< tt)

in_range : (call : Call) → ChangeParts 0 call → (tag : ℕ) → IsRange (least_of call tag) (most_of call tag)
in_range (Create dir name) change tag = range_of (tag == kinds.FINAL_CREATED_DIR) (tag == kinds.FINAL_IDS)
in_range (Mkdir dir name) change tag = range_of (tag == kinds.FINAL_CREATED_DIR) (tag == kinds.FINAL_IDS)
in_range (Remove dir name) change tag = range_of (tag == kinds.FINAL_CREATED_DIR) (tag == kinds.FINAL_IDS)
in_range (Setattr dir name mode size stamp) change tag = range_of (tag == kinds.FINAL_CREATED_DIR) (tag == kinds.FINAL_IDS)
in_range (Grab dir name count) change tag = range_of (tag == kinds.FINAL_CREATED_DIR) (tag == kinds.FINAL_IDS)
in_range (Link dir name id) change tag = link_range id (tag == kinds.FINAL_CREATED_DIR) change.2
in_range (Seal dir part epoch) change tag = range_of (tag == kinds.FINAL_CREATED_DIR) (tag == kinds.FINAL_IDS)
in_range (Unseal dir part epoch) change tag = range_of (tag == kinds.FINAL_CREATED_DIR) (tag == kinds.FINAL_IDS)
in_range (Kill dir epoch) change tag = range_of (tag == kinds.FINAL_CREATED_DIR) (tag == kinds.FINAL_IDS)
in_range (Unlink dir name id) change tag = range_of (tag == kinds.FINAL_CREATED_DIR) (tag == kinds.FINAL_IDS)
in_range (Lookup dir name) change tag = absurd change
in_range (Scan dir) change tag = absurd change
in_range (Load dir rows) change tag = load_range (length rows) (tag == kinds.FINAL_LOADED)

-- a tag that the call may get
abbrev SomeTag : Call → Type 0
SomeTag call = (tag : ℕ) × (tag < 256) × (is_among (tags_of call) tag ≡ true)

some_tag : (call : Call) → ChangeParts 0 call → SomeTag call
some_tag (Create dir name) change = (kinds.FINAL_CREATED, lit< tt, refl)
some_tag (Mkdir dir name) change = (kinds.FINAL_EXISTS, lit< tt, refl)
some_tag (Remove dir name) change = (kinds.FINAL_REMOVED, lit< tt, refl)
some_tag (Setattr dir name mode size stamp) change = (kinds.FINAL_SET, lit< tt, refl)
some_tag (Grab dir name count) change = (kinds.FINAL_IDS, lit< tt, refl)
some_tag (Link dir name id) change = (kinds.FINAL_EXISTS, lit< tt, refl)
some_tag (Seal dir part epoch) change = (kinds.FINAL_LATE, lit< tt, refl)
some_tag (Unseal dir part epoch) change = (kinds.FINAL_LATE, lit< tt, refl)
some_tag (Kill dir epoch) change = (kinds.FINAL_LATE, lit< tt, refl)
some_tag (Unlink dir name id) change = (kinds.FINAL_EXISTS, lit< tt, refl)
some_tag (Lookup dir name) change = absurd change
some_tag (Scan dir) change = absurd change
some_tag (Load dir rows) change = (kinds.FINAL_STALE, lit< tt, refl)

pub sealed_sound : Sound sealed_shape
sealed_sound = (omega arith, lit< tt, λ high _ _. ((0, lit< tt, refl), λ low _. tt))

final_sound : (call : Call) → ChangeParts 0 call → Sound (final_shape call)
final_sound call change = (some_tag call change, λ tag _. (λ _. sealed_sound, λ _. let range = in_range call change tag in (range.0, range.1, λ number _ _. tt)))

-- what stands at a place of a map: nothing, a file, or a directory
abbrev nothing : Entries
nothing = map.empty

abbrev only : Place → Attr → Entries
only place attr = map.insert nothing place attr

only_there : (place : Place) (attr : Attr) → map.get (only place attr) place ≡ Some attr
only_there place attr = map.get-insert places_total nothing place attr place ∙ ap (λ b. cond b (Some attr) (map.get nothing place)) ((eq_by_cmp_equiv places_total).refl place)

-- a reply that is due where the entry is absent, and one where it is there
says_absent : (place : Place) (Q : Type 0) (P : Attr → Type 0) → Q → MatchOption (map.get nothing place) Q P
says_absent place Q P holds = subst (λ (o : Option Attr). MatchOption o Q P) (sym (map.get-empty place_cmp place)) holds

says_there : (place : Place) (attr : Attr) (Q : Type 0) (P : Attr → Type 0) → P attr → MatchOption (map.get (only place attr) place) Q P
says_there place attr Q P holds = subst (λ (o : Option Attr). MatchOption o Q P) (sym (only_there place attr)) holds

-- a name
abbrev letter : List ℕ
letter = 97 ∷ []

byte_is : (k n : ℕ) → byte_at k n ≡ n / 256 ^ k % 256
byte_is zero n = ap (λ (m : ℕ). m % 256) (sym (div-one n))
byte_is (suc k) n = refl

byte_up : (k high low : ℕ) → low < 256 → byte_at (suc k) (high * 256 + low) ≡ byte_at k high
byte_up k high low small =
    let under : (high * 256 + low) / 256 ≡ high = omega arith in
    let split : (high * 256 + low) / 256 ^ suc k ≡ high / 256 ^ k =
    ap (λ (m : ℕ). (high * 256 + low) / m) (pow-suc 256 k ∙ mul_comm (256 ^ k) 256) ∙ sym (div-div-eq-div-mul (high * 256 + low) 256 (256 ^ k)) ∙ ap (λ (m : ℕ). m / 256 ^ k) under in
    ap (λ (m : ℕ). m % 256) split ∙ sym (byte_is k high)

-- the number of an epoch and a depth, and its bytes
low_bytes : (k high low : ℕ) → low < 256 → bytes_high_first (suc k) (high * 256 + low) ≡ bytes_high_first k high ++ low ∷ []
low_bytes zero high low small = let byte : (high * 256 + low) % 256 ≡ low = omega arith in ap (λ (b : ℕ). b ∷ []) byte
low_bytes (suc k) high low small =
    let rest = low_bytes k high low small in
    let first : byte_at (suc k) (high * 256 + low) ≡ byte_at k high = byte_up k high low small in
    ap (λ (b : ℕ). b ∷ bytes_high_first (suc k) (high * 256 + low)) first ∙ ap (λ (t : List ℕ). byte_at k high ∷ t) rest

pub seal_bytes : (epoch depth : ℕ) → depth ≤ 14 → to_be_bytes w64 (16 * epoch + depth) ≡ bytes_high_first 7 (epoch / 16) ++ (epoch % 16 * 16 + depth) ∷ []
seal_bytes epoch depth small =
    let whole : 16 * epoch + depth ≡ epoch / 16 * 256 + (epoch % 16 * 16 + depth) = omega arith in
    ap (to_be_bytes w64) whole ∙ low_bytes 7 (epoch / 16) (epoch % 16 * 16 + depth) (omega arith)

-- what follows this tag is a final of the call, and its spelling
abbrev OfTag : Call → ℕ → Type 0
OfTag call tag = (a : Args (tag_shape call tag)) → Ranged (tag_shape call tag) a → FinalText call (joined (tag ∷ []) (tag_shape call tag) a) (value_of (tag_shape call tag) a)

-- a final without a number
plain : (call : Call) (said : Final) (number : ℕ) → number_of said ≡ 0 → IsNumbered said → MaySay call said → number ≤ 0 → FinalText call (tag_of said ∷ to_be_bytes w64 number) said
plain call said number none numbered may no_number = record { reply = may; numbered = numbered; text_is = ap (λ (n : ℕ). tag_of said ∷ to_be_bytes w64 n) (let same : number ≡ 0 = omega arith in same ∙ sym none) }

pub sealed_made : (dir part epoch : ℕ) → OfTag (Seal dir part epoch) kinds.FINAL_SEALED
sealed_made dir part epoch a r =
    let low : a.1.0 % 16 ≤ 14 = grind (arith, nat_tests, r.1.0.1) in
    let byte = r.1.0.0 in
    let high = r.0.1 in
    let upper : (a.0 * 16 + a.1.0 / 16) / 16 ≡ a.0 = omega arith in
    let lower : (a.0 * 16 + a.1.0 / 16) % 16 * 16 + a.1.0 % 16 ≡ a.1.0 = omega arith in
    record {
      reply = (nothing, tt);
      numbered = (low, omega arith);
      text_is = ap (λ (t : List ℕ). kinds.FINAL_SEALED ∷ t) (sym (seal_bytes (a.0 * 16 + a.1.0 / 16) (a.1.0 % 16) low ∙ ap (λ (n : ℕ). bytes_high_first 7 n ++ ((a.0 * 16 + a.1.0 / 16) % 16 * 16 + a.1.0 % 16) ∷ []) upper ∙ ap (λ (b : ℕ). bytes_high_first 7 a.0 ++ b ∷ []) lower));
    }

finals_made : (call : Call) → ChangeParts 0 call → AllOf (OfTag call) (tags_of call)
finals_made (Create dir name) change = (
  λ a r. plain (Create dir name) Created a.0 refl tt (nothing, says_absent (dir, name) _ (λ _. Said Created ≡ Said Exists) refl) r.0.1,
  (λ a r. plain (Create dir name) Exists a.0 refl tt (only (dir, name) new_file, says_there (dir, name) new_file (Said Exists ≡ Said Created) (λ _. Said Exists ≡ Said Exists) refl) r.0.1, tt),
)
finals_made (Mkdir dir name) change = (
  λ a r. record { reply = (nothing, says_absent (dir, name) ((n : ℕ) × (Said (CreatedDir a.0) ≡ Said (CreatedDir n))) (λ _. Said (CreatedDir a.0) ≡ Said Exists) (a.0, refl)); numbered = in_directory a.0 r.0; text_is = refl },
  (λ a r. plain (Mkdir dir name) Exists a.0 refl tt (only (dir, name) new_file, says_there (dir, name) new_file ((n : ℕ) × (Said Exists ≡ Said (CreatedDir n))) (λ _. Said Exists ≡ Said Exists) refl) r.0.1, tt),
)
finals_made (Remove dir name) change = (
  λ a r. plain (Remove dir name) Removed a.0 refl tt (only (dir, name) new_file, says_there (dir, name) new_file (Said Removed ≡ Said Missing) (λ attr. Said Removed ≡ Said (if is_file attr then Removed else IsDir)) refl) r.0.1,
  (
    λ a r. plain (Remove dir name) Missing a.0 refl tt (nothing, says_absent (dir, name) _ (λ attr. Said Missing ≡ Said (if is_file attr then Removed else IsDir)) refl) r.0.1,
    (λ a r. plain (Remove dir name) IsDir a.0 refl tt (only (dir, name) (new_directory 1), says_there (dir, name) (new_directory 1) (Said IsDir ≡ Said Missing) (λ attr. Said IsDir ≡ Said (if is_file attr then Removed else IsDir)) refl) r.0.1, tt),
  ),
)
finals_made (Setattr dir name mode size stamp) change = (
  λ a r. plain (Setattr dir name mode size stamp) Missing a.0 refl tt (nothing, says_absent (dir, name) _ (λ _. Said Missing ≡ Said Set) refl) r.0.1,
  (λ a r. plain (Setattr dir name mode size stamp) Set a.0 refl tt (only (dir, name) new_file, says_there (dir, name) new_file (Said Set ≡ Said Missing) (λ _. Said Set ≡ Said Set) refl) r.0.1, tt),
)
finals_made (Grab dir name count) change = (λ a r. record { reply = (nothing, (a.0, refl)); numbered = r.0; text_is = refl }, tt)
finals_made (Link dir name id) change = (
  λ a r. let same : a.0 ≡ id = let low = r.0.0 in let high = r.0.1 in omega arith in
      subst (λ (n : ℕ). FinalText (Link dir name id) (kinds.FINAL_CREATED_DIR ∷ to_be_bytes w64 n) (CreatedDir n)) (sym same) (record { reply = (nothing, says_absent (dir, name) _ (λ _. Said (CreatedDir id) ≡ Said Exists) refl); numbered = change.2; text_is = refl }),
  (λ a r. plain (Link dir name id) Exists a.0 refl tt (only (dir, name) new_file, says_there (dir, name) new_file (Said Exists ≡ Said (CreatedDir id)) (λ _. Said Exists ≡ Said Exists) refl) r.0.1, tt),
)
finals_made (Seal dir part epoch) change = (
  sealed_made dir part epoch,
  (
    λ a r. plain (Seal dir part epoch) NotEmpty a.0 refl tt (only (dir, letter) new_file, (letter, new_file, only_there (dir, letter) new_file)) r.0.1,
    (
      λ a r. plain (Seal dir part epoch) Late a.0 refl tt (nothing, tt) r.0.1,
      (λ a r. plain (Seal dir part epoch) Killed a.0 refl tt (nothing, λ name. map.get-empty place_cmp (dir, name)) r.0.1, tt),
    ),
  ),
)
finals_made (Unseal dir part epoch) change =
    (λ a r. plain (Unseal dir part epoch) Late a.0 refl tt (nothing, inr refl) r.0.1, (λ a r. plain (Unseal dir part epoch) Opened a.0 refl tt (nothing, inl refl) r.0.1, tt))
finals_made (Kill dir epoch) change =
    (λ a r. plain (Kill dir epoch) Late a.0 refl tt (nothing, inr refl) r.0.1, (λ a r. plain (Kill dir epoch) Killed a.0 refl tt (nothing, inl (refl, λ name. map.get-empty place_cmp (dir, name))) r.0.1, tt))
finals_made (Unlink dir name id) change =
    let other : (0 == id) ≡ false = let some = change.2.0 in grind (arith, nat_tests) in (
      λ a r. plain (Unlink dir name id) Exists a.0 refl tt (only (dir, name) new_file, says_there (dir, name) new_file (Said Exists ≡ Said Missing) (λ attr. Said Exists ≡ Said (if attr.dir == id then Removed else Exists)) (ap (λ (b : Bool). Said (cond b Removed Exists)) (sym other))) r.0.1,
      (
        λ a r. plain (Unlink dir name id) Removed a.0 refl tt (only (dir, name) (new_directory id), says_there (dir, name) (new_directory id) (Said Removed ≡ Said Missing) (λ attr. Said Removed ≡ Said (if attr.dir == id then Removed else Exists)) (ap (λ (b : Bool). Said (cond b Removed Exists)) (sym (eq-eqb id id refl)))) r.0.1,
        (λ a r. plain (Unlink dir name id) Missing a.0 refl tt (nothing, says_absent (dir, name) _ (λ attr. Said Missing ≡ Said (if attr.dir == id then Removed else Exists)) refl) r.0.1, tt),
      ),
    )
finals_made (Lookup dir name) change = absurd change
finals_made (Scan dir) change = absurd change
finals_made (Load dir rows) change = (
  λ a r.
      let few : a.0 ≤ length rows = let high = r.0.1 in omega arith in
      let most : a.0 ≤ 4096 = let high = r.0.1 in omega arith in
      let on = reached dir rows a.0 (distinct_of false None rows change.1.rising) few in
      record { reply = (on.0, inl (ap (λ (n : ℕ). Said (Loaded n)) on.1)); numbered = most; text_is = refl },
  (λ a r. plain (Load dir rows) Stale a.0 refl tt (nothing, inr refl) r.0.1, tt),
)

final_there : (call : Call) → ChangeParts 0 call → (text : List ℕ) (said : Final) → Of (final_shape call) text said → FinalText call text said
final_there call change text said o =
    let made = each_of (OfTag call) (tags_of call) (finals_made call change) o.args.0 o.ranged.0.1 o.args.1 o.ranged.1 in
    subst (FinalText call text) (sym o.value_is) (record { reply = made.reply; numbered = made.numbered; text_is = o.text_is ∙ made.text_is })

-- what a final is read from
abbrev Read : Call → Final → Type 0
Read call said = Of (final_shape call) (final_spelling said) said

read_as : (call : Call) (a said : Final) → Said said ≡ Said a → Read call a → Read call said
read_as call a said e r = let same : a ≡ said = cc in subst (Read call) same r

-- one of two replies, whatever the map has
one_of_two : (o : Option Attr) (P : Type 0) (Q : Attr → Type 0) → MatchOption o P Q → P ⊎ ((attr : Attr) × Q attr)
one_of_two None P Q h = inl h
one_of_two (Some attr) P Q h = inr (attr, h)

-- the zeros after a tag without a number
abbrev zeros : (0 ≤ 0) × (0 ≤ 0)
zeros = (lit≤ tt, lit≤ tt)

removed_or : (dir : ℕ) (name : List ℕ) (said : Final) (b : Bool) → Said said ≡ Said (cond b Removed IsDir) → Read (Remove dir name) said
removed_or dir name said true e = read_as (Remove dir name) Removed said e (record { args = (kinds.FINAL_REMOVED, (0, tt)); ranged = ((lit< tt, refl), (zeros, tt)); text_is = refl; value_is = refl })
removed_or dir name said false e = read_as (Remove dir name) IsDir said e (record { args = (kinds.FINAL_IS_DIR, (0, tt)); ranged = ((lit< tt, refl), (zeros, tt)); text_is = refl; value_is = refl })

unlinked_or : (dir : ℕ) (name : List ℕ) (id : ℕ) (said : Final) (b : Bool) → Said said ≡ Said (cond b Removed Exists) → Read (Unlink dir name id) said
unlinked_or dir name id said true e = read_as (Unlink dir name id) Removed said e (record { args = (kinds.FINAL_REMOVED, (0, tt)); ranged = ((lit< tt, refl), (zeros, tt)); text_is = refl; value_is = refl })
unlinked_or dir name id said false e = read_as (Unlink dir name id) Exists said e (record { args = (kinds.FINAL_EXISTS, (0, tt)); ranged = ((lit< tt, refl), (zeros, tt)); text_is = refl; value_is = refl })

made_directory : (dir : ℕ) (name : List ℕ) (said : Final) → IsNumbered said → ((n : ℕ) × (Said said ≡ Said (CreatedDir n))) → Read (Mkdir dir name) said
made_directory dir name said numbered s =
    let same : said ≡ CreatedDir s.0 = let e = s.1 in cc in
    let range : IsDirectory s.0 = subst IsNumbered same numbered in
    read_as (Mkdir dir name) (CreatedDir s.0) said s.1 (record { args = (kinds.FINAL_CREATED_DIR, (s.0, tt)); ranged = ((lit< tt, refl), (of_directory s.0 range, tt)); text_is = refl; value_is = refl })

grabbed : (dir : ℕ) (name : List ℕ) (count : ℕ) (said : Final) → IsNumbered said → ((n : ℕ) × (Said said ≡ Said (Ids n))) → Read (Grab dir name count) said
grabbed dir name count said numbered s =
    let same : said ≡ Ids s.0 = let e = s.1 in cc in
    let range : (2 ≤ s.0) × (s.0 ≤ 2 ^ 45) = subst IsNumbered same numbered in
    read_as (Grab dir name count) (Ids s.0) said s.1 (record { args = (kinds.FINAL_IDS, (s.0, tt)); ranged = ((lit< tt, refl), (range, tt)); text_is = refl; value_is = refl })

pub is_low_byte : (epoch depth : ℕ) → depth ≤ 14 → is_low (epoch % 16 * 16 + depth) ≡ true
is_low_byte epoch depth small = let low : (epoch % 16 * 16 + depth) % 16 ≤ 14 = omega arith in grind (arith, nat_tests)

sealed_read : (dir part e epoch depth : ℕ) → (depth ≤ 14) × (epoch < 2 ^ 48) → Read (Seal dir part e) (Sealed depth epoch)
sealed_read dir part e epoch depth numbered =
    let small = numbered.0 in
    let few = numbered.1 in
    let depth_is : (epoch % 16 * 16 + depth) % 16 ≡ depth = omega arith in
    let epoch_is : epoch / 16 * 16 + (epoch % 16 * 16 + depth) / 16 ≡ epoch = omega arith in
    record {
      args = (kinds.FINAL_SEALED, (epoch / 16, (epoch % 16 * 16 + depth, tt)));
      ranged = ((lit< tt, refl), ((omega arith, omega arith), ((omega arith, is_low_byte epoch depth small), tt)));
      text_is = ap (λ (t : List ℕ). kinds.FINAL_SEALED ∷ t) (seal_bytes epoch depth small);
      value_is = ap (λ (d : ℕ). Sealed d epoch) (sym depth_is) ∙ ap (λ (n : ℕ). Sealed ((epoch % 16 * 16 + depth) % 16) n) (sym epoch_is);
    }

seal_read : (dir part e : ℕ) (said : Final) (entries : Entries) → SealAllows entries dir (Said said) → IsNumbered said → Read (Seal dir part e) said
seal_read dir part e (Sealed depth epoch) entries may numbered = sealed_read dir part e epoch depth numbered
seal_read dir part e NotEmpty entries may numbered = record { args = (kinds.FINAL_NOT_EMPTY, (0, tt)); ranged = ((lit< tt, refl), (zeros, tt)); text_is = refl; value_is = refl }
seal_read dir part e Late entries may numbered = record { args = (kinds.FINAL_LATE, (0, tt)); ranged = ((lit< tt, refl), (zeros, tt)); text_is = refl; value_is = refl }
seal_read dir part e Killed entries may numbered = record { args = (kinds.FINAL_KILLED, (0, tt)); ranged = ((lit< tt, refl), (zeros, tt)); text_is = refl; value_is = refl }
seal_read dir part e Created entries may numbered = absurd may
seal_read dir part e (CreatedDir number) entries may numbered = absurd may
seal_read dir part e Exists entries may numbered = absurd may
seal_read dir part e Removed entries may numbered = absurd may
seal_read dir part e Missing entries may numbered = absurd may
seal_read dir part e IsDir entries may numbered = absurd may
seal_read dir part e Set entries may numbered = absurd may
seal_read dir part e (Ids first) entries may numbered = absurd may
seal_read dir part e (Loaded count) entries may numbered = absurd may
seal_read dir part e Stale entries may numbered = absurd may
seal_read dir part e Opened entries may numbered = absurd may

loaded_read : (dir : ℕ) (rows : List Row) (said : Final) (entries : Entries) → length rows ≤ 4096 → Said said ≡ Said (Loaded (added entries dir rows)) → Read (Load dir rows) said
loaded_read dir rows said entries few e =
    let most = added_most entries dir rows in
    read_as (Load dir rows) (Loaded (added entries dir rows)) said e (record { args = (kinds.FINAL_LOADED, (added entries dir rows, tt)); ranged = ((lit< tt, refl), ((omega arith, omega arith), tt)); text_is = refl; value_is = refl })

read_of : (call : Call) (said : Final) → ChangeParts 0 call → MaySay call said → IsNumbered said → Read call said
read_of (Create dir name) said change may numbered = elim (one_of_two (map.get may.0 (dir, name)) _ _ may.1) [
  | inl e ↦ read_as (Create dir name) Created said e (record { args = (kinds.FINAL_CREATED, (0, tt)); ranged = ((lit< tt, refl), (zeros, tt)); text_is = refl; value_is = refl })
  | inr e ↦ read_as (Create dir name) Exists said e.1 (record { args = (kinds.FINAL_EXISTS, (0, tt)); ranged = ((lit< tt, refl), (zeros, tt)); text_is = refl; value_is = refl })
]
read_of (Mkdir dir name) said change may numbered = elim (one_of_two (map.get may.0 (dir, name)) _ _ may.1) [
  | inl e ↦ made_directory dir name said numbered e
  | inr e ↦ read_as (Mkdir dir name) Exists said e.1 (record { args = (kinds.FINAL_EXISTS, (0, tt)); ranged = ((lit< tt, refl), (zeros, tt)); text_is = refl; value_is = refl })
]
read_of (Remove dir name) said change may numbered = elim (one_of_two (map.get may.0 (dir, name)) _ _ may.1) [
  | inl e ↦ read_as (Remove dir name) Missing said e (record { args = (kinds.FINAL_MISSING, (0, tt)); ranged = ((lit< tt, refl), (zeros, tt)); text_is = refl; value_is = refl })
  | inr e ↦ removed_or dir name said (is_file e.0) e.1
]
read_of (Setattr dir name mode size stamp) said change may numbered = elim (one_of_two (map.get may.0 (dir, name)) _ _ may.1) [
  | inl e ↦ read_as (Setattr dir name mode size stamp) Missing said e (record { args = (kinds.FINAL_MISSING, (0, tt)); ranged = ((lit< tt, refl), (zeros, tt)); text_is = refl; value_is = refl })
  | inr e ↦ read_as (Setattr dir name mode size stamp) Set said e.1 (record { args = (kinds.FINAL_SET, (0, tt)); ranged = ((lit< tt, refl), (zeros, tt)); text_is = refl; value_is = refl })
]
read_of (Grab dir name count) said change may numbered = grabbed dir name count said numbered may.1
read_of (Link dir name id) said change may numbered = elim (one_of_two (map.get may.0 (dir, name)) _ _ may.1) [
  | inl e ↦ let high = change.2.1 in read_as (Link dir name id) (CreatedDir id) said e (record { args = (kinds.FINAL_CREATED_DIR, (id, tt)); ranged = ((lit< tt, refl), ((omega arith, omega arith), tt)); text_is = refl; value_is = refl })
  | inr e ↦ read_as (Link dir name id) Exists said e.1 (record { args = (kinds.FINAL_EXISTS, (0, tt)); ranged = ((lit< tt, refl), (zeros, tt)); text_is = refl; value_is = refl })
]
read_of (Seal dir part epoch) said change may numbered = seal_read dir part epoch said may.0 may.1 numbered
read_of (Unseal dir part epoch) said change may numbered = elim may.1 [
  | inl e ↦ read_as (Unseal dir part epoch) Opened said e (record { args = (kinds.FINAL_OPENED, (0, tt)); ranged = ((lit< tt, refl), (zeros, tt)); text_is = refl; value_is = refl })
  | inr e ↦ read_as (Unseal dir part epoch) Late said e (record { args = (kinds.FINAL_LATE, (0, tt)); ranged = ((lit< tt, refl), (zeros, tt)); text_is = refl; value_is = refl })
]
read_of (Kill dir epoch) said change may numbered = elim may.1 [
  | inl e ↦ read_as (Kill dir epoch) Killed said e.0 (record { args = (kinds.FINAL_KILLED, (0, tt)); ranged = ((lit< tt, refl), (zeros, tt)); text_is = refl; value_is = refl })
  | inr e ↦ read_as (Kill dir epoch) Late said e (record { args = (kinds.FINAL_LATE, (0, tt)); ranged = ((lit< tt, refl), (zeros, tt)); text_is = refl; value_is = refl })
]
read_of (Unlink dir name id) said change may numbered = elim (one_of_two (map.get may.0 (dir, name)) _ _ may.1) [
  | inl e ↦ read_as (Unlink dir name id) Missing said e (record { args = (kinds.FINAL_MISSING, (0, tt)); ranged = ((lit< tt, refl), (zeros, tt)); text_is = refl; value_is = refl })
  | inr e ↦ unlinked_or dir name id said (e.0.dir == id) e.1
]
read_of (Lookup dir name) said change may numbered = absurd change
read_of (Scan dir) said change may numbered = absurd change
read_of (Load dir rows) said change may numbered = elim may.1 [
  | inl e ↦ loaded_read dir rows said may.0 change.1.few e
  | inr e ↦ read_as (Load dir rows) Stale said e (record { args = (kinds.FINAL_STALE, (0, tt)); ranged = ((lit< tt, refl), (zeros, tt)); text_is = refl; value_is = refl })
]

final_back : (call : Call) → ChangeParts 0 call → (text : List ℕ) (said : Final) → FinalText call text said → Of (final_shape call) text said
final_back call change text said s = let r = read_of call said change s.reply s.numbered in record { args = r.args; ranged = r.ranged; text_is = s.text_is ∙ r.text_is; value_is = r.value_is }

final_parts : (call : Call) → ChangeParts 0 call → Follows (Of (final_shape call)) (final_at call)
unfolding final_at sealed_at byte_among
final_parts call change = shape_reads (final_shape call) (final_sound call change)

pub final_reads : (call : Call) → ChangeParts 0 call → Follows (FinalText call) (final_at call)
final_reads call change = same_follows (final_there call change) (final_back call change) (final_parts call change)

-- some final may be said to each call, also to one whose rows are still to come
pub final_opens : (n : ℕ) (call : Call) → ChangeParts n call → Opens (λ _. FinalText call)
final_opens n (Create dir name) change = (goes_plainly (final_reads (Create dir name) change)).opens
final_opens n (Mkdir dir name) change = (goes_plainly (final_reads (Mkdir dir name) change)).opens
final_opens n (Remove dir name) change = (goes_plainly (final_reads (Remove dir name) change)).opens
final_opens n (Setattr dir name mode size stamp) change = (goes_plainly (final_reads (Setattr dir name mode size stamp) change)).opens
final_opens n (Grab dir name count) change = (goes_plainly (final_reads (Grab dir name count) change)).opens
final_opens n (Link dir name id) change = (goes_plainly (final_reads (Link dir name id) change)).opens
final_opens n (Seal dir part epoch) change = (goes_plainly (final_reads (Seal dir part epoch) change)).opens
final_opens n (Unseal dir part epoch) change = (goes_plainly (final_reads (Unseal dir part epoch) change)).opens
final_opens n (Kill dir epoch) change = (goes_plainly (final_reads (Kill dir epoch) change)).opens
final_opens n (Unlink dir name id) change = (goes_plainly (final_reads (Unlink dir name id) change)).opens
final_opens n (Load dir rows) change = record { waits = record { looser = λ m n text said le s. s }; text = final_spelling Stale; value = Stale; spelled = record { reply = (nothing, inr refl); numbered = tt; text_is = refl } }
final_opens n (Lookup dir name) change = absurd change
final_opens n (Scan dir) change = absurd change
