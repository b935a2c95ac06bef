-- The readers of sessions read them exactly: finals of any call, and clients that rise.
use Rattle.std.proofs.Common.{◌≡◌, ◌∙◌, sym, ap, subst, refl, ℕ, zero, suc, ◌+◌, ◌-◌, ◌*◌, ◌/◌, ◌%◌, ◌^◌, ◌<◌, ◌≤◌, ◌==◌, Bool, true, false, cond, List, [], ◌∷◌, ◌++◌, append_assoc, length, lit≤, lit<, arith, Option, Some, Ok}
use Rattle.std.specs.Int.{w32, w64, to_be_bytes, bytes_high_first}
use Rattle.std.specs.List.{AllByRecursion, flat_map, slice_get}
use Rattle.std.proofs.lemmas.List.{append-nil, length-append}
use Rattle.mds_base.proofs.Grow.{get_last}
use Rattle.mds_base.specs.declared.reply.Final.{Final}
use Rattle.mds_base.specs.declared.reply.Final.TheVariants.{Created, CreatedDir, Exists, Removed, Missing, IsDir, Set, Ids, Loaded, Stale, Sealed, NotEmpty, Late, Opened, Killed}
use Rattle.mds_base.specs.declared.session.Session.{Session}
use Rattle.records.specs.declared.fault.Stop.{Stop}
use Rattle.records.specs.declared.kinds.TheConstants as kinds
use Rattle.records.specs.Faults.{Fails}
use Rattle.records.specs.FinalBytes.{IsNumbered, tag_of, number_of, final_spelling}
use Rattle.records.specs.Installs.{session_spelling, sessions_spelling, IsSession, AreSessions}
use Rattle.records.specs.Reading.{byte_among, final_of, sealed_at, list_after}
use Rattle.records.specs.ReadingInstalls.{final_tags, least_with, most_with, numbered_at, some_final_at, last_session, client_after, session_in, session_at, sessions_at}
use Rattle.records.proofs.Decoding.{Follows, Seq, Ends, follows_here, same_follows}
use Rattle.records.proofs.ToCome.{both_follow, Then, Goes, goes_plainly, go_in_turn, same_goes, Listed, list_goes, list_step, list_fails, list_done}
use Rattle.records.proofs.Fields.{is_among, NumberOf, number_reads}
use Rattle.records.proofs.Shapes.{Shape, Done, Byte, Number, If, Args, Ranged, value_of, joined, Of, Sound, shape_reads, AllOf, each_of}
use Rattle.records.proofs.Calls.{in_directory, of_directory}
use Rattle.records.proofs.Finals.{IsRange, sealed_shape, sealed_sound, seal_bytes, is_low_byte, sealed_made}

-- ---- a final of any call

pub record SomeFinal (text : List ℕ) (said : Final) : Type 0 where
  pub numbered : IsNumbered said
  pub text_is : text ≡ final_spelling said

abbrev some_tag_shape : ℕ → Shape Final
some_tag_shape tag = If (tag == kinds.FINAL_SEALED) sealed_shape (Number 8 (least_with tag) (most_with tag) (λ number. Done (final_of tag number)))

abbrev some_shape : Shape Final
some_shape = Byte (is_among final_tags) some_tag_shape

range_with : (a b c : Bool) → IsRange (cond a 1 (cond b 2 0)) (cond a (2 ^ 48 - 1) (cond b (2 ^ 45) (cond c 4096 0)))
range_with true b c = (lit≤ tt, lit< tt)
range_with false true c = (lit≤ tt, lit< tt)
range_with false false true = (lit≤ tt, lit< tt)
range_with false false false = (lit≤ tt, lit< tt)

some_sound : Sound some_shape
some_sound = ((kinds.FINAL_CREATED, lit< tt, refl), λ tag _. (λ _. sealed_sound, λ _. let range = range_with (tag == kinds.FINAL_CREATED_DIR) (tag == kinds.FINAL_IDS) (tag == kinds.FINAL_LOADED) in (range.0, range.1, λ number _ _. tt)))

-- what follows this tag is a final, and its spelling
abbrev OfSome : ℕ → Type 0
OfSome tag = (a : Args (some_tag_shape tag)) → Ranged (some_tag_shape tag) a → SomeFinal (joined (tag ∷ []) (some_tag_shape tag) a) (value_of (some_tag_shape tag) a)

plain : (said : Final) (number : ℕ) → number_of said ≡ 0 → IsNumbered said → number ≤ 0 → SomeFinal (tag_of said ∷ to_be_bytes w64 number) said
plain said number none numbered no_number = record { numbered = numbered; text_is = ap (λ (n : ℕ). tag_of said ∷ to_be_bytes w64 n) (let same : number ≡ 0 = omega arith in same ∙ sym none) }

some_sealed : OfSome kinds.FINAL_SEALED
some_sealed a r = let m = sealed_made 1 0 0 a r in record { numbered = m.numbered; text_is = m.text_is }

finals_there : AllOf OfSome final_tags
finals_there = (
  λ a r. plain Created a.0 refl tt r.0.1,
  (
    λ a r. record { numbered = in_directory a.0 r.0; text_is = refl },
    (
      λ a r. plain Exists a.0 refl tt r.0.1,
      (
        λ a r. plain Removed a.0 refl tt r.0.1,
        (
          λ a r. plain Missing a.0 refl tt r.0.1,
          (
            λ a r. plain IsDir a.0 refl tt r.0.1,
            (
              λ a r. plain Set a.0 refl tt r.0.1,
              (
                λ a r. record { numbered = r.0; text_is = refl },
                (
                  λ a r. record { numbered = r.0.1; text_is = refl },
                  (
                    λ a r. plain Stale a.0 refl tt r.0.1,
                    (
                      some_sealed,
                      (
                        λ a r. plain NotEmpty a.0 refl tt r.0.1,
                        (
                          λ a r. plain Late a.0 refl tt r.0.1,
                          (
                            λ a r. plain Opened a.0 refl tt r.0.1,
                            (λ a r. plain Killed a.0 refl tt r.0.1, tt),
                          ),
                        ),
                      ),
                    ),
                  ),
                ),
              ),
            ),
          ),
        ),
      ),
    ),
  ),
)

some_there : (text : List ℕ) (said : Final) → Of some_shape text said → SomeFinal text said
some_there text said o =
    let made = each_of OfSome final_tags finals_there o.args.0 o.ranged.0.1 o.args.1 o.ranged.1 in
    subst (SomeFinal text) (sym o.value_is) (record { numbered = made.numbered; text_is = o.text_is ∙ made.text_is })

abbrev zeros : (0 ≤ 0) × (0 ≤ 0)
zeros = (lit≤ tt, lit≤ tt)

some_back : (text : List ℕ) (said : Final) → SomeFinal text said → Of some_shape text said
some_back text Created s = record { args = (kinds.FINAL_CREATED, (0, tt)); ranged = ((lit< tt, refl), (zeros, tt)); text_is = s.text_is; value_is = refl }
some_back text (CreatedDir number) s = record { args = (kinds.FINAL_CREATED_DIR, (number, tt)); ranged = ((lit< tt, refl), (of_directory number s.numbered, tt)); text_is = s.text_is; value_is = refl }
some_back text Exists s = record { args = (kinds.FINAL_EXISTS, (0, tt)); ranged = ((lit< tt, refl), (zeros, tt)); text_is = s.text_is; value_is = refl }
some_back text Removed s = record { args = (kinds.FINAL_REMOVED, (0, tt)); ranged = ((lit< tt, refl), (zeros, tt)); text_is = s.text_is; value_is = refl }
some_back text Missing s = record { args = (kinds.FINAL_MISSING, (0, tt)); ranged = ((lit< tt, refl), (zeros, tt)); text_is = s.text_is; value_is = refl }
some_back text IsDir s = record { args = (kinds.FINAL_IS_DIR, (0, tt)); ranged = ((lit< tt, refl), (zeros, tt)); text_is = s.text_is; value_is = refl }
some_back text Set s = record { args = (kinds.FINAL_SET, (0, tt)); ranged = ((lit< tt, refl), (zeros, tt)); text_is = s.text_is; value_is = refl }
some_back text (Ids first) s = record { args = (kinds.FINAL_IDS, (first, tt)); ranged = ((lit< tt, refl), (s.numbered, tt)); text_is = s.text_is; value_is = refl }
some_back text (Loaded count) s = record { args = (kinds.FINAL_LOADED, (count, tt)); ranged = ((lit< tt, refl), ((omega arith, s.numbered), tt)); text_is = s.text_is; value_is = refl }
some_back text Stale s = record { args = (kinds.FINAL_STALE, (0, tt)); ranged = ((lit< tt, refl), (zeros, tt)); text_is = s.text_is; value_is = refl }
some_back text (Sealed depth epoch) s =
    let small = s.numbered.0 in
    let few = s.numbered.1 in
    let depth_is : (epoch % 16 * 16 + depth) % 16 ≡ depth = omega arith in
    let epoch_is : epoch / 16 * 16 + (epoch % 16 * 16 + depth) / 16 ≡ epoch = omega arith in
    record {
      args = (kinds.FINAL_SEALED, (epoch / 16, (epoch % 16 * 16 + depth, tt)));
      ranged = ((lit< tt, refl), ((omega arith, omega arith), ((omega arith, is_low_byte epoch depth small), tt)));
      text_is = s.text_is ∙ ap (λ (t : List ℕ). kinds.FINAL_SEALED ∷ t) (seal_bytes epoch depth small);
      value_is = ap (λ (d : ℕ). Sealed d epoch) (sym depth_is) ∙ ap (λ (n : ℕ). Sealed ((epoch % 16 * 16 + depth) % 16) n) (sym epoch_is);
    }
some_back text NotEmpty s = record { args = (kinds.FINAL_NOT_EMPTY, (0, tt)); ranged = ((lit< tt, refl), (zeros, tt)); text_is = s.text_is; value_is = refl }
some_back text Late s = record { args = (kinds.FINAL_LATE, (0, tt)); ranged = ((lit< tt, refl), (zeros, tt)); text_is = s.text_is; value_is = refl }
some_back text Opened s = record { args = (kinds.FINAL_OPENED, (0, tt)); ranged = ((lit< tt, refl), (zeros, tt)); text_is = s.text_is; value_is = refl }
some_back text Killed s = record { args = (kinds.FINAL_KILLED, (0, tt)); ranged = ((lit< tt, refl), (zeros, tt)); text_is = s.text_is; value_is = refl }

some_parts : Follows (Of some_shape) some_final_at
unfolding some_final_at numbered_at sealed_at byte_among
some_parts = shape_reads some_shape some_sound

some_reads : Follows SomeFinal some_final_at
some_reads = same_follows some_there some_back some_parts

-- ---- one session

abbrev session_with : ℕ → ℕ → Final → Session
session_with client seq said = record { client = client; seq = seq; said = said }

abbrev SessionParts : ℕ → ℕ → List ℕ → Session → Type 0
SessionParts least most = Seq (NumberOf 4 least most) (λ client. Seq (NumberOf 8 1 (2 ^ 64 - 1)) (λ seq. Seq SomeFinal (λ said. Ends (session_with client seq said))))

pub record SessionText (least most : ℕ) (text : List ℕ) (session : Session) : Type 0 where
  pub low : least ≤ session.client
  pub high : session.client ≤ most
  pub from_one : 1 ≤ session.seq
  pub fits : session.seq < 2 ^ 64
  pub numbered : IsNumbered session.said
  pub text_is : text ≡ session_spelling session

session_there : (least most : ℕ) (text : List ℕ) (session : Session) → SessionParts least most text session → SessionText least most text session
session_there least most text session s =
    let q = s.second in
    let f = q.second in
    let seq_high = q.first.high in
    subst (SessionText least most text) (sym f.second.is) (record {
      low = s.first.low;
      high = s.first.high;
      from_one = q.first.low;
      fits = omega arith;
      numbered = f.first.numbered;
      text_is = s.parts ∙ ap (λ (u : List ℕ). u ++ s.back) s.first.text_is ∙ ap (λ (u : List ℕ). to_be_bytes w32 s.value ++ u) (q.parts ∙ ap (λ (u : List ℕ). u ++ q.back) q.first.text_is
          ∙ ap (λ (u : List ℕ). to_be_bytes w64 q.value ++ u) (f.parts ∙ ap (λ (u : List ℕ). u ++ f.back) f.first.text_is ∙ ap (λ (u : List ℕ). final_spelling f.value ++ u) f.second.none ∙ append-nil (final_spelling f.value)));
    })

session_back : (least most : ℕ) (text : List ℕ) (session : Session) → SessionText least most text session → SessionParts least most text session
session_back least most text session t =
    let fits = t.fits in
    record {
      front = to_be_bytes w32 session.client;
      back = to_be_bytes w64 session.seq ++ final_spelling session.said;
      value = session.client;
      parts = t.text_is;
      first = record { low = t.low; high = t.high; text_is = refl };
      second = record {
        front = to_be_bytes w64 session.seq;
        back = final_spelling session.said;
        value = session.seq;
        parts = refl;
        first = record { low = t.from_one; high = omega arith; text_is = refl };
        second = record { front = final_spelling session.said; back = []; value = session.said; parts = sym (append-nil (final_spelling session.said)); first = record { numbered = t.numbered; text_is = refl }; second = record { none = refl; is = refl } };
      };
    }

session_reads : (so_far : List Session) (left : ℕ) → client_after (last_session so_far) ≤ 64 - left → Follows (SessionText (client_after (last_session so_far)) (64 - left)) (session_at so_far left)
unfolding session_in
session_reads so_far left le = same_follows (session_there (client_after (last_session so_far)) (64 - left)) (session_back (client_after (last_session so_far)) (64 - left))
    (both_follow (number_reads (client_after (last_session so_far)) (64 - left) le 4 (omega arith)) (λ t client s. both_follow (number_reads 1 (2 ^ 64 - 1) (lit≤ tt) 8 (lit< tt)) (λ t seq s. both_follow some_reads (λ t said s. follows_here (session_with client seq said)))))

-- ---- so many sessions behind some others

abbrev Sessions : List Session → ℕ → ℕ → List ℕ → List Session → Type 0
Sessions = Listed (λ so_far left missing. SessionText (client_after (last_session so_far)) (64 - left))

last_is : (sessions : List Session) (session : Session) → last_session (sessions ++ session ∷ []) ≡ Some session
last_is sessions session = let long : length (sessions ++ session ∷ []) - 1 ≡ length sessions = omega (arith, length-append sessions (session ∷ [])) in ap (slice_get (sessions ++ session ∷ [])) long ∙ get_last sessions session

-- there are clients enough for those that follow
abbrev Good : List Session → ℕ → Type 0
Good so_far left = client_after (last_session so_far) + left ≤ 65

sessions_go : (so_far : List Session) (left : ℕ) → Good so_far left → Goes (Sessions so_far left) (list_after session_at so_far left)
sessions_go so_far left good = list_goes Good
    (λ so_far left good. goes_plainly (session_reads so_far left (omega arith)))
    (λ so_far left n text x good s. let high = s.high in subst (λ (o : Option Session). client_after o + left ≤ 65) (sym (last_is so_far x)) (omega arith))
    so_far left good

pub record SessionsFrom (so_far : List Session) (left : ℕ) (text : List ℕ) (whole : List Session) : Type 0 where
  pub sessions : List Session
  pub whole_is : whole ≡ so_far ++ sessions
  pub count : length sessions ≡ left
  pub are : AreSessions (client_after (last_session so_far)) sessions
  pub text_is : text ≡ flat_map session_spelling sessions

sessions_there : (so_far : List Session) (left n : ℕ) (text : List ℕ) (whole : List Session) → Sessions so_far left n text whole → SessionsFrom so_far left text whole
sessions_there so_far zero n text whole e = record { sessions = []; whole_is = e.is ∙ sym (append-nil so_far); count = refl; are = tt; text_is = e.none }
sessions_there so_far (suc left) n text whole s =
    let x = s.value in
    let t = s.first in
    let high = t.high in
    let r = sessions_there (so_far ++ x ∷ []) left n s.back whole s.second in
    record {
      sessions = x ∷ r.sessions;
      whole_is = r.whole_is ∙ append_assoc so_far (x ∷ []) r.sessions;
      count = ap suc r.count;
      are = (t.low, record { few_clients = omega arith; from_one = t.from_one; fits = t.fits; numbered = t.numbered }, subst (λ (o : Option Session). AreSessions (client_after o) r.sessions) (last_is so_far x) r.are);
      text_is = s.parts ∙ ap (λ (u : List ℕ). u ++ s.back) t.text_is ∙ ap (λ (u : List ℕ). session_spelling x ++ u) r.text_is;
    }

-- clients that rise are few
pub room : (least : ℕ) (sessions : List Session) → least ≤ 65 → AreSessions least sessions → least + length sessions ≤ 65
room least [] le are = omega arith
room least (session ∷ sessions) le are =
    let few = are.1.few_clients in
    let low = are.0 in
    let rest = room (session.client + 1) sessions (omega arith) are.2 in
    omega arith

sessions_of : (so_far : List Session) (left n : ℕ) (whole sessions : List Session) → whole ≡ so_far ++ sessions → length sessions ≡ left → AreSessions (client_after (last_session so_far)) sessions → Sessions so_far left n (flat_map session_spelling sessions) whole
sessions_of so_far zero n whole [] is count are = record { none = refl; is = is ∙ append-nil so_far }
sessions_of so_far zero n whole (x ∷ sessions) is count are = absurd (omega arith)
sessions_of so_far (suc left) n whole [] is count are = absurd (omega arith)
sessions_of so_far (suc left) n whole (x ∷ sessions) is count are =
    let few = are.1.few_clients in
    let enough = room (x.client + 1) sessions (omega arith) are.2 in
    record {
      front = session_spelling x;
      back = flat_map session_spelling sessions;
      value = x;
      parts = refl;
      first = record { low = are.0; high = omega arith; from_one = are.1.from_one; fits = are.1.fits; numbered = are.1.numbered; text_is = refl };
      second = sessions_of (so_far ++ x ∷ []) left n whole sessions (is ∙ sym (append_assoc so_far (x ∷ []) sessions)) (omega arith) (subst (λ (o : Option Session). AreSessions (client_after o) sessions) (sym (last_is so_far x)) are.2);
    }

-- ---- sessions and their number

pub record SessionsText (text : List ℕ) (sessions : List Session) : Type 0 where
  pub are : AreSessions 1 sessions
  pub text_is : text ≡ sessions_spelling sessions

abbrev Counted : ℕ → List ℕ → List Session → Type 0
Counted = Then (λ _. NumberOf 1 0 64) (λ count. Sessions [] count)

counted_go : Goes Counted sessions_at
unfolding sessions_at
counted_go = go_in_turn (goes_plainly (number_reads 0 64 (lit≤ tt) 1 (lit< tt))) (λ text count s. let high = s.high in (sessions_go [] count (omega arith)).reads) (λ n text count s. let high = s.high in (sessions_go [] count (omega arith)).opens)

one_byte : (n : ℕ) → n ≤ 64 → bytes_high_first 1 n ≡ n ∷ []
one_byte n le = let same : n % 256 ≡ n = omega arith in ap (λ (m : ℕ). m ∷ []) same

counted_there : (n : ℕ) (text : List ℕ) (sessions : List Session) → Counted n text sessions → SessionsText text sessions
counted_there n text sessions s =
    let r = sessions_there [] s.value n s.back sessions s.second in
    let same : r.sessions ≡ sessions = sym r.whole_is in
    let count : s.value ≡ length sessions = sym r.count ∙ ap length same in
    record {
      are = subst (AreSessions 1) same r.are;
      text_is = s.parts ∙ ap (λ (u : List ℕ). u ++ s.back) (s.first.text_is ∙ one_byte s.value s.first.high) ∙ ap (λ (k : ℕ). k ∷ s.back) count ∙ ap (λ (u : List ℕ). length sessions ∷ u) (r.text_is ∙ ap (flat_map session_spelling) same);
    }

counted_back : (n : ℕ) (text : List ℕ) (sessions : List Session) → SessionsText text sessions → Counted n text sessions
counted_back n text sessions t =
    let enough = room 1 sessions (omega arith) t.are in
    let few : length sessions ≤ 64 = omega arith in
    record {
      front = length sessions ∷ [];
      back = flat_map session_spelling sessions;
      value = length sessions;
      parts = t.text_is;
      first = record { low = omega arith; high = few; text_is = sym (one_byte (length sessions) few) };
      second = sessions_of [] (length sessions) n sessions sessions refl refl t.are;
    }

pub sessions_goes : Goes (λ _. SessionsText) sessions_at
sessions_goes = same_goes counted_there counted_back counted_go

-- ---- one session after another, as the loop reads them

-- so many sessions were read, and the next client may be `least`
pub record SessionsRead (count : ℕ) (bytes : List ℕ) (sessions : List Session) (least place : ℕ) (rest : List ℕ) : Type 0 where
  pub least_is : least ≡ client_after (last_session sessions)
  pub enough : least + (count - place) ≤ 65
  pub reads : list_after session_at sessions (count - place) rest ≡ list_after session_at [] count bytes

pub sessions_begin : (count : ℕ) (bytes : List ℕ) → count ≤ 64 → SessionsRead count bytes [] 1 0 bytes
sessions_begin count bytes few = let all : count - 0 ≡ count = omega arith in record { least_is = refl; enough = omega arith; reads = ap (λ (n : ℕ). list_after session_at [] n bytes) all }

-- the session that is read next
pub next_session : (count : ℕ) (bytes : List ℕ) (sessions : List Session) (least place : ℕ) (rest : List ℕ) → SessionsRead count bytes sessions least place rest → session_in least (64 - (count - 1 - place)) rest ≡ session_at sessions (count - 1 - place) rest
next_session count bytes sessions least place rest r = ap (λ (n : ℕ). session_in n (64 - (count - 1 - place)) rest) r.least_is

sessions_left : (count : ℕ) (bytes : List ℕ) (sessions : List Session) (least place : ℕ) (rest : List ℕ) → place < count → SessionsRead count bytes sessions least place rest → list_after session_at sessions (suc (count - 1 - place)) rest ≡ list_after session_at [] count bytes
sessions_left count bytes sessions least place rest lt r = let left : suc (count - 1 - place) ≡ count - place = omega arith in ap (λ (n : ℕ). list_after session_at sessions n rest) left ∙ r.reads

pub session_fails : (count : ℕ) (bytes : List ℕ) (sessions : List Session) (least place : ℕ) (rest : List ℕ) (stop : Stop) → place < count → SessionsRead count bytes sessions least place rest → Fails stop (session_in least (64 - (count - 1 - place)) rest) → Fails stop (list_after session_at [] count bytes)
session_fails count bytes sessions least place rest stop lt r fails =
    let own = subst (Fails stop) (next_session count bytes sessions least place rest r) fails in
    subst (Fails stop) (sessions_left count bytes sessions least place rest lt r) (list_fails session_at sessions (count - 1 - place) rest stop own)

pub one_session : (count : ℕ) (bytes : List ℕ) (sessions : List Session) (least place : ℕ) (rest : List ℕ) (session : Session) (after : List ℕ) → place < count → SessionsRead count bytes sessions least place rest → session_in least (64 - (count - 1 - place)) rest ≡ Ok (session, after)
    → session.client ≤ 64 - (count - 1 - place) → SessionsRead count bytes (sessions ++ session ∷ []) (session.client + 1) (place + 1) after
one_session count bytes sessions least place rest session after lt r read few =
    let enough = r.enough in
    let own = sym (next_session count bytes sessions least place rest r) ∙ read in
    let left : count - (place + 1) ≡ count - 1 - place = omega arith in
    record {
      least_is = ap client_after (sym (last_is sessions session));
      enough = omega arith;
      reads = ap (λ (n : ℕ). list_after session_at (sessions ++ session ∷ []) n after) left ∙ sym (list_step session_at sessions (count - 1 - place) rest session after own) ∙ sessions_left count bytes sessions least place rest lt r;
    }

pub all_sessions : (count : ℕ) (bytes : List ℕ) (sessions : List Session) (least place : ℕ) (rest : List ℕ) → count ≤ place → SessionsRead count bytes sessions least place rest → list_after session_at [] count bytes ≡ Ok (sessions, rest)
all_sessions count bytes sessions least place rest le r = let none : count - place ≡ 0 = omega arith in sym r.reads ∙ ap (λ (n : ℕ). list_after session_at sessions n rest) none ∙ list_done session_at sessions rest

-- sessions that rise are sessions
pub each_session : (least : ℕ) (sessions : List Session) → AreSessions least sessions → AllByRecursion IsSession sessions
each_session least [] are = tt
each_session least (session ∷ sessions) are = (are.1, each_session (session.client + 1) sessions are.2)
