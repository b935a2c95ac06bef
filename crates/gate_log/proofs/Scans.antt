-- What stands at the place of a gate, by the bytes that were read there.
use Rattle.std.proofs.Common.{◌≡◌, ℕ, ◌+◌, ◌-◌, ◌<◌, ◌^◌, List, [], ◌∷◌, ◌++◌, length, get_or, take, drop, Option, None, Some, refl, sym, ◌∙◌, ap, subst, arith, append_assoc, length-drop, take-append-drop}
use Rattle.std.proofs.lemmas.List.{drop_more, get_or-take, get_or-drop, length-take-le, drop-drop, drop_at, nil_from_length}
use Rattle.std.proofs.lemmas.List.Elements.{All-push}
use Rattle.std.specs.Int.{to_be_bytes, from_be_bytes, w32}
use Rattle.mds_out.specs.Known.{OnTold}
use Rattle.gate_log.specs.Frame.{framed, IsLengthAt}
use Rattle.gate_log.specs.Log.{log_bytes, IsLacking, IsCutShort}
use Rattle.gate_log.specs.Found.{IsScanned, IsLogEnd}
use Rattle.mds_out.specs.Disk.{Image, Contents, Lengths, IsUnchanged, AreSame}
use Rattle.gate_log.proofs.Frames.{log_bytes-push, longer}
use Rattle.gate_log.specs.Steps.{IsBodyAt, IsClosedAt}

some_same : (a b : ℕ) → Some a ≡ Some b → a ≡ b
some_same a b same = cc

-- the gate that was read, and what is behind it
open_at : (bytes gate : List ℕ) (offset : ℕ) → offset < length bytes → gate ≡ take 1 (drop offset bytes) → get_or gate 0 0 ≡ 1 → drop offset bytes ≡ 1 ∷ drop (offset + 1) bytes
open_at bytes gate offset within read is =
    let first : get_or gate 0 0 ≡ get_or bytes offset 0 = ap (λ l. get_or l 0 0) read ∙ get_or-take 1 (drop offset bytes) 0 0 (omega arith) ∙ get_or-drop offset bytes 0 0 ∙ ap (λ k. get_or bytes k 0) (omega arith) in
    drop_more bytes offset 0 within ∙ ap (λ g. g ∷ drop (offset + 1) bytes) (sym first ∙ is)

lacks : (bytes gate : List ℕ) (offset : ℕ) → offset < length bytes → gate ≡ take 1 (drop offset bytes) → get_or gate 0 0 ≡ 1 → length (drop (offset + 1) bytes) < 4 + from_be_bytes w32 (take 4 (drop (offset + 1) bytes)) + 1 → IsLacking (drop offset bytes)
lacks bytes gate offset within read is few = subst IsLacking (sym (open_at bytes gate offset within read is)) (refl, few)

few_behind : (bytes : List ℕ) (size offset : ℕ) → size ≡ length bytes → offset < size → length (drop (offset + 1) bytes) ≡ size - offset - 1
few_behind bytes size offset is within = omega (arith, length-drop (offset + 1) bytes)

pub lacks_behind : (seen : Option (List ℕ)) (known : Option ℕ) (size offset : ℕ) (gate : List ℕ) → ((bytes : List ℕ) → seen ≡ Some bytes → known ≡ Some (length bytes)) → known ≡ Some size → offset < size
    → OnTold seen (λ bytes. gate ≡ take 1 (drop offset bytes)) → get_or gate 0 0 ≡ 1 → OnTold seen (IsLengthAt offset size None) → OnTold seen (λ bytes. IsLacking (drop offset bytes))
lacks_behind None known size offset gate law is within read opened none = tt
lacks_behind (Some bytes) known size offset gate law is within read opened none =
    let sizes : size ≡ length bytes = some_same size (length bytes) (sym is ∙ law bytes refl) in
    lacks bytes gate offset (omega arith) read opened (omega (arith, none, few_behind bytes size offset sizes within))

-- a length and a body behind an open gate
framed_at : (bytes len : List ℕ) (offset n : ℕ) → len ≡ take 4 (drop (offset + 1) bytes) → to_be_bytes w32 n ≡ len → offset + 5 + n < length bytes → drop (offset + 1) bytes ≡ framed (take n (drop (offset + 5) bytes)) ++ drop (offset + 5 + n) bytes
framed_at bytes len offset n after spelled fits =
    let body = take n (drop (offset + 5) bytes) in
    let size : length body ≡ n = length-take-le n (drop (offset + 5) bytes) (omega (arith, length-drop (offset + 5) bytes)) in
    sym (take-append-drop 4 (drop (offset + 1) bytes))
    ∙ ap (λ l. l ++ drop 4 (drop (offset + 1) bytes)) (sym after ∙ sym spelled ∙ ap (to_be_bytes w32) (sym size))
    ∙ ap (λ l. to_be_bytes w32 (length body) ++ l) (drop-drop 4 (offset + 1) bytes ∙ ap (λ k. drop k bytes) (omega arith) ∙ sym (take-append-drop n (drop (offset + 5) bytes)) ∙ ap (λ l. body ++ l) (drop-drop n (offset + 5) bytes))
    ∙ sym (append_assoc (to_be_bytes w32 (length body)) body (drop (offset + 5 + n) bytes))

pub body_there : (bytes len : List ℕ) (offset n : ℕ) → drop offset bytes ≡ 1 ∷ drop (offset + 1) bytes → len ≡ take 4 (drop (offset + 1) bytes) → to_be_bytes w32 n ≡ len → n < 2 ^ 32 → offset + 5 + n < length bytes → IsBodyAt offset (offset + 5 + n) bytes
body_there bytes len offset n opened after spelled small fits = record {
  body = take n (drop (offset + 5) bytes);
  gate = get_or bytes (offset + 5 + n) 0;
  rest = drop (offset + 5 + n + 1) bytes;
  is = opened ∙ ap (λ l. 1 ∷ l) (framed_at bytes len offset n after spelled fits ∙ ap (λ l. framed (take n (drop (offset + 5) bytes)) ++ l) (drop_more bytes (offset + 5 + n) 0 fits));
  next_is = ap (λ k. offset + 5 + k) (sym (length-take-le n (drop (offset + 5) bytes) (omega (arith, length-drop (offset + 5) bytes))));
  short = subst (λ k. k < 2 ^ 32) (sym (length-take-le n (drop (offset + 5) bytes) (omega (arith, length-drop (offset + 5) bytes)))) small;
}

pub body_behind : (seen : Option (List ℕ)) (known : Option ℕ) (size offset n : ℕ) (gate : List ℕ) → ((bytes : List ℕ) → seen ≡ Some bytes → known ≡ Some (length bytes)) → known ≡ Some size → offset < size → n < 2 ^ 32 → offset + 5 + n < size
    → OnTold seen (λ bytes. gate ≡ take 1 (drop offset bytes)) → get_or gate 0 0 ≡ 1 → OnTold seen (IsLengthAt offset size (Some n)) → OnTold seen (IsBodyAt offset (offset + 5 + n))
body_behind None known size offset n gate law is within small fits read opened spelled = tt
body_behind (Some bytes) known size offset n gate law is within small fits read opened spelled =
    let sizes : size ≡ length bytes = some_same size (length bytes) (sym is ∙ law bytes refl) in
    body_there bytes (take 4 (drop (offset + 1) bytes)) offset n (open_at bytes gate offset (omega arith) read opened) refl spelled small (omega arith)

-- ---- from gate to gate

scanned_start : (bytes : List ℕ) → IsScanned 0 bytes
scanned_start bytes = record { bodies = []; split = refl; place_is = refl; short = λ k d here. absurd (omega arith) }

scanned_more : (offset next : ℕ) (bytes : List ℕ) → IsScanned offset bytes → IsBodyAt offset next bytes → IsScanned next bytes
scanned_more offset next bytes before at = record { bodies = before.bodies ++ at.body ∷ []; split = whole ∙ ap (λ l. log_bytes (before.bodies ++ at.body ∷ []) ++ l) (sym rest_is); place_is = place_is; short = All-push (λ b. length b < 2 ^ 32) before.bodies at.body before.short at.short }
  where
    whole : bytes ≡ log_bytes (before.bodies ++ at.body ∷ []) ++ at.gate ∷ at.rest
    whole = before.split ∙ ap (λ l. log_bytes before.bodies ++ l) at.is ∙ sym (append_assoc (log_bytes before.bodies) (1 ∷ framed at.body) (at.gate ∷ at.rest)) ∙ ap (λ l. l ++ at.gate ∷ at.rest) (sym (log_bytes-push before.bodies at.body))

    place_is : next ≡ length (log_bytes (before.bodies ++ at.body ∷ []))
    place_is = omega (arith, at.next_is, before.place_is, longer before.bodies at.body)

    rest_is : drop next bytes ≡ at.gate ∷ at.rest
    rest_is = ap (drop next) whole ∙ drop_at (log_bytes (before.bodies ++ at.body ∷ [])) (at.gate ∷ at.rest) next (sym place_is)

scanned_end : (offset : ℕ) (bytes : List ℕ) → IsScanned offset bytes → IsClosedAt offset bytes → IsLogEnd (offset + 1) bytes
scanned_end offset bytes before at = record {
  bodies = before.bodies;
  holds = record { gate = at.gate; rest = at.rest; split = before.split ∙ ap (λ l. log_bytes before.bodies ++ l) at.is; closed = at.closed; short = before.short };
  length_is = ap (λ k. k + 1) before.place_is;
}

scanned_bad : (offset : ℕ) (bytes : List ℕ) → offset < length bytes → IsScanned offset bytes → IsLacking (drop offset bytes) → IsCutShort bytes offset
scanned_bad offset bytes within before lacking = record {
  bodies = before.bodies;
  rest = drop offset bytes;
  split = before.split;
  place_is = before.place_is;
  lacking = lacking;
  empty = λ none. absurd (omega (arith, ap length none, length-drop offset bytes));
  short = before.short;
}

empty_bad : (bytes : List ℕ) → length bytes ≡ 0 → IsCutShort bytes 0
empty_bad bytes none = record { bodies = []; rest = bytes; split = refl; place_is = refl; lacking = subst IsLacking (sym (nil_from_length bytes none)) tt; empty = λ is. refl; short = λ k d here. absurd (omega arith) }

pub start : (seen : Option (List ℕ)) → OnTold seen (IsScanned 0)
start None = tt
start (Some bytes) = scanned_start bytes

pub more : (seen : Option (List ℕ)) (offset next : ℕ) → OnTold seen (IsScanned offset) → OnTold seen (IsBodyAt offset next) → OnTold seen (IsScanned next)
more None offset next before at = tt
more (Some bytes) offset next before at = scanned_more offset next bytes before at

pub end : (seen : Option (List ℕ)) (offset : ℕ) → OnTold seen (IsScanned offset) → OnTold seen (IsClosedAt offset) → OnTold seen (IsLogEnd (offset + 1))
end None offset before at = tt
end (Some bytes) offset before at = scanned_end offset bytes before at

pub bad : (seen : Option (List ℕ)) (known : Option ℕ) (size offset : ℕ) → ((bytes : List ℕ) → seen ≡ Some bytes → known ≡ Some (length bytes)) → known ≡ Some size → offset < size → OnTold seen (IsScanned offset) → OnTold seen (λ bytes. IsLacking (drop offset bytes)) → OnTold seen (λ bytes. IsCutShort bytes offset)
bad None known size offset law is within before at = tt
bad (Some bytes) known size offset law is within before at =
    let sizes : size ≡ length bytes = some_same size (length bytes) (sym is ∙ law bytes refl) in
    scanned_bad offset bytes (omega arith) before at

pub none : (seen : Option (List ℕ)) (known : Option ℕ) (size : ℕ) → ((bytes : List ℕ) → seen ≡ Some bytes → known ≡ Some (length bytes)) → known ≡ Some size → size ≡ 0 → OnTold seen (λ bytes. IsCutShort bytes 0)
none None known size law is empty = tt
none (Some bytes) known size law is empty =
    let sizes : size ≡ length bytes = some_same size (length bytes) (sym is ∙ law bytes refl) in
    empty_bad bytes (omega arith)

-- ---- calls that change nothing, one after another

known_twice : (a b c : Option ℕ) → OnTold a (λ n. b ≡ Some n) → OnTold b (λ n. c ≡ Some n) → OnTold a (λ n. c ≡ Some n)
known_twice None b c first second = tt
known_twice (Some n) None c first second = cc
known_twice (Some n) (Some m) c first second = second ∙ first

pub unchanged_twice : (seen seen' seen'' : Contents) (sizes sizes' sizes'' : Lengths) → IsUnchanged seen seen' sizes sizes' → IsUnchanged seen' seen'' sizes' sizes'' → IsUnchanged seen seen'' sizes sizes''
unchanged_twice seen seen' seen'' sizes sizes' sizes'' first second = record { bytes = λ file. second.bytes file ∙ first.bytes file; lengths = λ file. known_twice (sizes file) (sizes' file) (sizes'' file) (first.lengths file) (second.lengths file) }

pub known_still : (known known' : Option ℕ) (size : ℕ) → known ≡ Some size → OnTold known (λ n. known' ≡ Some n) → known' ≡ Some size
known_still None known' size is stays = cc
known_still (Some n) known' size is stays = stays ∙ is

pub same_twice : (a b c : Image → Type 0) → AreSame a b → AreSame b c → AreSame a c
same_twice a b c first second = record { no_other = λ image is. first.no_other image (second.no_other image is); all = λ image is. second.all image (first.all image is) }
