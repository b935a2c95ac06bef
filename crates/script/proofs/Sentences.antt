-- Lines: what reading finds is what the bytes say, and what they say is found.
use Rattle.std.proofs.Common.{◌≡◌, ◌∙◌, sym, ap, subst, refl, ℕ, ◌<◌, ◌≤◌, ◌-◌, ◌^◌, zero, suc, List, [], ◌∷◌, length, Bool, true, false, not, cond, arith, Option, Some, None, MatchOption, is_some, codes, decimal, nat_le, nat_lt, nat_eq, IsTrue}
use Rattle.std.specs.Prelude.{◌&&◌}
use Rattle.std.specs.List.{find}
use Rattle.std.specs.Cmp.Lexicographic.{pointwise}
use Rattle.std.proofs.lemmas.Bool.{true≢false, and_parts, and_from, leb-true, le-leb, ltb-true, lt-ltb}
use Rattle.std.proofs.lemmas.Option.{cond_some, same_Some}
use Rattle.std.proofs.lemmas.Slice.Eq.{bytes_eq-Decides}
use Rattle.mds_base.specs.declared.limits.TheConstants.{MODE_MOST, BATCH_MOST, TICK_MOST, FUSE_MOST}
use Rattle.mds_base.specs.Calls.{is_directory}
use Rattle.mds_base.specs.Name.{is_name}
use Rattle.mds_base.specs.declared.attr.Stamp.{Stamp}
use Rattle.mds_base.specs.declared.call.Call.{Call}
use Rattle.mds_base.specs.declared.call.Call.TheVariants as calls
use Rattle.mds_base.specs.declared.setup.Setup.{Setup}
use Rattle.script.specs.declared.line.Line.{Line}
use Rattle.script.specs.declared.line.Line.TheVariants as lines
use Rattle.script.specs.declared.verb.Verb.{Verb}
use Rattle.script.specs.declared.verb.Verb.TheVariants as verbs
use Rattle.script.specs.declared.verb.CallVerb.{CallVerb}
use Rattle.script.specs.declared.verb.CallVerb.TheVariants as asked
use Rattle.script.specs.Words.{word_at, rest_at}
use Rattle.script.specs.Grammar.{Part, Keyword, Number, Named, Raw, Rest, IsSpelled, AreSaid, stamp_parts, call_parts, number_parts, line_parts, IsStamp, IsAsked, IsClient, IsServer, IsWithin}
use Rattle.script.specs.Names.{SpellsName}
use Rattle.script.specs.Reading.{◌>>=◌, number_of, unescaped, checked_name, name_of, verb_text, call_verb_text, each_verb, each_call_verb, verb_of, call_verb_of, is_end, number_at, number_within, server_at, client_at, directory_at, name_at, place_at, stamp_here, stamp_at, setattr_after, call_after, call_at, asked_at, numbers_at, call_line, issue_line, retry_line, deliver_line, batch_line, take_line, remind_line, tick_line, fuse_line, stop_line, restart_line, walk_line, bulk_line, rmdir_line, feed_line, promote_line, line_after, line_from, line_of}
use Rattle.script.proofs.Numerals.{number_is, number_found}
use Rattle.script.proofs.Unescaping.{name_is, name_found}

-- ---- what the bytes say is found

-- reading found this, and what is behind it says more parts
record Takes {X : Type 0} (found : Option (X × List ℕ)) (value : X) (more : List Part) : Type 0 where
  rest : List ℕ
  is : found ≡ Some (value, rest)
  later : AreSaid rest more

-- the piece that says a part
record Piece (found : Option (List ℕ × List ℕ)) (part : Part) (more : List Part) : Type 0 where
  piece : List ℕ × List ℕ
  is : found ≡ Some piece
  spelled : IsSpelled piece.0 part
  later : AreSaid piece.1 more

piece_of : (found : Option (List ℕ × List ℕ)) (part : Part) (more : List Part) → MatchOption found ⊥ (λ piece. IsSpelled piece.0 part × AreSaid piece.1 more) → Piece found part more
piece_of None part more s = absurd s
piece_of (Some piece) part more s = record { piece = piece; is = refl; spelled = s.0; later = s.1 }

text_again : (found : Option (List ℕ × List ℕ)) (text : List ℕ) (more : List Part) → MatchOption found ⊥ (λ piece. (piece.0 ≡ text) × AreSaid piece.1 more) → Takes found text more
text_again None text more s = absurd s
text_again (Some piece) text more s = record { rest = piece.1; is = ap (λ t. Some (t, piece.1)) s.0; later = s.1 }

number_again : (bytes : List ℕ) (number : ℕ) (more : List Part) → AreSaid bytes (Number number ∷ more) → Takes (number_at bytes) number more
unfolding number_at
number_again bytes number more s =
    let p = piece_of (word_at bytes) (Number number) more s in
    record {
      rest = p.piece.1;
      is = ap (λ o. o >>= (λ w. number_of w.0 >>= (λ n. Some (n, w.1)))) p.is ∙ ap (λ o. o >>= (λ n. Some (n, p.piece.1))) (number_is p.piece.0 number p.spelled.0 p.spelled.1);
      later = p.later;
    }

within_again : (least most : ℕ) (bytes : List ℕ) (number : ℕ) (more : List Part) → AreSaid bytes (Number number ∷ more) → least ≤ number → number ≤ most → Takes (number_within least most bytes) number more
unfolding number_within
within_again least most bytes number more s low high =
    let n = number_again bytes number more s in
    record {
      rest = n.rest;
      is = ap (λ o. o >>= (λ n. cond (nat_le least n.0 && nat_le n.0 most) (Some n) None)) n.is
          ∙ ap (λ t. cond t (Some (number, n.rest)) None) (and_from (nat_le least number) (nat_le number most) (le-leb least number low) (le-leb number most high));
      later = n.later;
    }

server_again : (setup : Setup) (bytes : List ℕ) (server : ℕ) (more : List Part) → AreSaid bytes (Number server ∷ more) → IsServer setup server → Takes (server_at setup bytes) server more
unfolding server_at
server_again setup bytes server more s below =
    let n = number_again bytes server more s in
    record {
      rest = n.rest;
      is = ap (λ o. o >>= (λ n. cond (nat_lt n.0 setup.servers) (Some n) None)) n.is
          ∙ ap (λ t. cond t (Some (server, n.rest)) None) (lt-ltb server setup.servers below);
      later = n.later;
    }

name_again : (bytes : List ℕ) (name : List ℕ) (more : List Part) → AreSaid bytes (Named name ∷ more) → Takes (name_at bytes) name more
unfolding name_at name_of
name_again bytes name more s =
    let p = piece_of (word_at bytes) (Named name) more s in
    record {
      rest = p.piece.1;
      is = ap (λ o. o >>= (λ w. name_of w.0 >>= (λ n. Some (n, w.1)))) p.is
          ∙ ap (λ o. o >>= checked_name >>= (λ n. Some (n, p.piece.1))) (name_is p.piece.0 name p.spelled.0)
          ∙ ap (λ t. cond t (Some name) None >>= (λ n. Some (n, p.piece.1))) p.spelled.1;
      later = p.later;
    }

-- a directory, and a name in it
record Places (bytes : List ℕ) (dir : ℕ) (name : List ℕ) (more : List Part) : Type 0 where
  rest : List ℕ
  is : place_at bytes ≡ Some (dir, name, rest)
  later : AreSaid rest more

directory_again : (bytes : List ℕ) (dir : ℕ) (more : List Part) → AreSaid bytes (Number dir ∷ more) → IsTrue (is_directory dir) → Takes (directory_at bytes) dir more
unfolding directory_at
directory_again bytes dir more s within =
    let n = number_again bytes dir more s in
    record {
      rest = n.rest;
      is = ap (λ o. o >>= (λ n. cond (is_directory n.0) (Some n) None)) n.is ∙ ap (λ t. cond t (Some (dir, n.rest)) None) within;
      later = n.later;
    }

place_again : (bytes : List ℕ) (dir : ℕ) (name : List ℕ) (more : List Part) → AreSaid bytes (Number dir ∷ Named name ∷ more) → IsTrue (is_directory dir) → Places bytes dir name more
unfolding place_at
place_again bytes dir name more s within =
    let d = directory_again bytes dir (Named name ∷ more) s within in
    let n = name_again d.rest name more d.later in
    record { rest = n.rest; is = rw (d.is, n.is) refl; later = n.later }

verb_is : (verb : Verb) → verb_of (verb_text verb) ≡ Some verb
unfolding verb_of
verb_is verbs.Call = refl
verb_is verbs.Issue = refl
verb_is verbs.Retry = refl
verb_is verbs.Deliver = refl
verb_is verbs.Batch = refl
verb_is verbs.Take = refl
verb_is verbs.Settle = refl
verb_is verbs.Remind = refl
verb_is verbs.Tick = refl
verb_is verbs.Fuse = refl
verb_is verbs.Stop = refl
verb_is verbs.Restart = refl
verb_is verbs.Walk = refl
verb_is verbs.Bulk = refl
verb_is verbs.Rmdir = refl
verb_is verbs.Feed = refl
verb_is verbs.Promote = refl

call_verb_is : (verb : CallVerb) → call_verb_of (call_verb_text verb) ≡ Some verb
unfolding call_verb_of
call_verb_is asked.Create = refl
call_verb_is asked.Mkdir = refl
call_verb_is asked.Remove = refl
call_verb_is asked.Lookup = refl
call_verb_is asked.Setattr = refl
call_verb_is asked.Scan = refl

-- no word is left
ended : (bytes : List ℕ) → AreSaid bytes [] → is_end bytes ≡ true
unfolding is_end
ended bytes s = ap (λ o. not (is_some o)) s

-- a word is left, which says a part
going_on : (bytes : List ℕ) (number : ℕ) (more : List Part) → AreSaid bytes (Number number ∷ more) → is_end bytes ≡ false
unfolding is_end
going_on bytes number more s = ap (λ o. not (is_some o)) (piece_of (word_at bytes) (Number number) more s).is

stamp_again : (bytes : List ℕ) (stamp : Option Stamp) → AreSaid bytes (stamp_parts stamp) → IsStamp stamp → Takes (stamp_at bytes) stamp []
unfolding stamp_at stamp_here
stamp_again bytes None s within = record { rest = bytes; is = rw (ended bytes s) refl; later = s }
stamp_again bytes (Some stamp) s within =
    let o = within_again 0 (2 ^ 32 - 1) bytes stamp.owner (Number stamp.mtime ∷ []) s (omega arith) (omega (arith, within)) in
    let m = number_again o.rest stamp.mtime [] o.later in
    record { rest = m.rest; is = rw (going_on bytes stamp.owner (Number stamp.mtime ∷ []) s, o.is, m.is) refl; later = m.later }

-- a call of this verb
record Verbs (bytes : List ℕ) (verb : CallVerb) (more : List Part) : Type 0 where
  rest : List ℕ
  is : call_at bytes ≡ call_after verb rest
  later : AreSaid rest more

verb_again : (bytes : List ℕ) (verb : CallVerb) (more : List Part) → AreSaid bytes (Keyword (call_verb_text verb) ∷ more) → Verbs bytes verb more
unfolding call_at
verb_again bytes verb more s =
    let w = text_again (word_at bytes) (call_verb_text verb) more s in
    record {
      rest = w.rest;
      is = ap (λ o. o >>= (λ w. call_verb_of w.0 >>= (λ verb. call_after verb w.1))) w.is ∙ ap (λ o. o >>= (λ verb. call_after verb w.rest)) (call_verb_is verb);
      later = w.later;
    }

setattr_again : (bytes : List ℕ) (dir : ℕ) (name : List ℕ) (mode size : ℕ) (stamp : Option Stamp) → AreSaid bytes (Number mode ∷ Number size ∷ stamp_parts stamp) → mode ≤ MODE_MOST → IsStamp stamp → Takes (setattr_after dir name bytes) (calls.Setattr dir name mode size stamp) []
unfolding setattr_after
setattr_again bytes dir name mode size stamp s small within =
    let m = within_again 0 MODE_MOST bytes mode (Number size ∷ stamp_parts stamp) s (omega arith) small in
    let n = number_again m.rest size (stamp_parts stamp) m.later in
    let t = stamp_again n.rest stamp n.later within in
    record { rest = t.rest; is = rw (m.is, n.is, t.is) refl; later = t.later }

call_again : (bytes : List ℕ) (call : Call) → AreSaid bytes (call_parts call) → IsAsked call → Takes (call_at bytes) call []
unfolding call_after
call_again bytes (calls.Create dir name) s within =
    let w = verb_again bytes asked.Create (Number dir ∷ Named name ∷ []) s in
    let p = place_again w.rest dir name [] w.later within.made in
    record { rest = p.rest; is = w.is ∙ rw p.is refl; later = p.later }
call_again bytes (calls.Mkdir dir name) s within =
    let w = verb_again bytes asked.Mkdir (Number dir ∷ Named name ∷ []) s in
    let p = place_again w.rest dir name [] w.later within.made in
    record { rest = p.rest; is = w.is ∙ rw p.is refl; later = p.later }
call_again bytes (calls.Remove dir name) s within =
    let w = verb_again bytes asked.Remove (Number dir ∷ Named name ∷ []) s in
    let p = place_again w.rest dir name [] w.later within.made in
    record { rest = p.rest; is = w.is ∙ rw p.is refl; later = p.later }
call_again bytes (calls.Lookup dir name) s within =
    let w = verb_again bytes asked.Lookup (Number dir ∷ Named name ∷ []) s in
    let p = place_again w.rest dir name [] w.later within.made in
    record { rest = p.rest; is = w.is ∙ rw p.is refl; later = p.later }
call_again bytes (calls.Setattr dir name mode size stamp) s within =
    let both = and_parts (is_directory dir) (nat_le mode MODE_MOST) within.made in
    let w = verb_again bytes asked.Setattr (Number dir ∷ Named name ∷ Number mode ∷ Number size ∷ stamp_parts stamp) s in
    let p = place_again w.rest dir name (Number mode ∷ Number size ∷ stamp_parts stamp) w.later both.0 in
    let a = setattr_again p.rest dir name mode size stamp p.later (leb-true mode MODE_MOST both.1) within.stamp in
    record { rest = a.rest; is = w.is ∙ rw p.is a.is; later = a.later }
call_again bytes (calls.Scan dir) s within =
    let w = verb_again bytes asked.Scan (Number dir ∷ []) s in
    let d = directory_again w.rest dir [] w.later within.made in
    record { rest = d.rest; is = w.is ∙ rw d.is refl; later = d.later }
call_again bytes (calls.Grab dir name count) s within = absurd (true≢false (sym within.verb))
call_again bytes (calls.Load dir rows) s within = absurd (true≢false (sym within.verb))
call_again bytes (calls.Link dir name id) s within = absurd (true≢false (sym within.verb))
call_again bytes (calls.Seal dir part epoch) s within = absurd (true≢false (sym within.verb))
call_again bytes (calls.Unseal dir part epoch) s within = absurd (true≢false (sym within.verb))
call_again bytes (calls.Kill dir epoch) s within = absurd (true≢false (sym within.verb))
call_again bytes (calls.Unlink dir name id) s within = absurd (true≢false (sym within.verb))

client_again : (setup : Setup) (bytes : List ℕ) (client : ℕ) (more : List Part) → AreSaid bytes (Number client ∷ more) → IsClient setup client → Takes (client_at setup bytes) client more
client_again setup bytes client more s within = within_again 1 setup.clients bytes client more s within.0 within.1

record Asks (setup : Setup) (bytes : List ℕ) (client : ℕ) (call : Call) : Type 0 where
  rest : List ℕ
  is : asked_at setup bytes ≡ Some (client, call, rest)
  later : AreSaid rest []

asked_again : (setup : Setup) (bytes : List ℕ) (client : ℕ) (call : Call) → AreSaid bytes (Number client ∷ call_parts call) → IsClient setup client → IsAsked call → Asks setup bytes client call
unfolding asked_at
asked_again setup bytes client call s is_client is_asked =
    let c = client_again setup bytes client (call_parts call) s is_client in
    let d = call_again c.rest call c.later is_asked in
    record { rest = d.rest; is = rw (c.is, d.is) refl; later = d.later }

-- as many numbers as are said, if they are not too many
numbers_again : (most : ℕ) (bytes : List ℕ) (numbers : List ℕ) → AreSaid bytes (number_parts numbers) → length numbers ≤ most → Takes (numbers_at most bytes) numbers []
unfolding numbers_at
numbers_again zero bytes [] s few = record { rest = bytes; is = refl; later = s }
numbers_again zero bytes (number ∷ numbers) s few = absurd (omega (arith, few))
numbers_again (suc most) bytes [] s few = record { rest = bytes; is = rw (ended bytes s) refl; later = s }
numbers_again (suc most) bytes (number ∷ numbers) s few =
    let n = number_again bytes number (number_parts numbers) s in
    let m = numbers_again most n.rest numbers n.later (omega (arith, few)) in
    record { rest = m.rest; is = rw (going_on bytes number (number_parts numbers) s, n.is, m.is) refl; later = m.later }

-- a line behind its first word
tail_again : (setup : Setup) (bytes : List ℕ) (verb : Verb) (line : Line) (parts : List Part) → AreSaid bytes (Keyword (verb_text verb) ∷ parts) → ((rest : List ℕ) → AreSaid rest parts → Takes (line_after verb setup rest) line []) → line_of setup bytes ≡ Some line
unfolding line_of line_from
tail_again setup bytes verb line parts s later =
    let w = text_again (word_at bytes) (verb_text verb) parts s in
    let l = later w.rest w.later in
    ap (line_from setup) w.is ∙ rw (verb_is verb, l.is, ended l.rest l.later) refl

batch_again : (setup : Setup) (bytes : List ℕ) (server : ℕ) (places : List ℕ) → AreSaid bytes (Number server ∷ number_parts places) → IsServer setup server → 1 ≤ length places → length places ≤ BATCH_MOST → Takes (batch_line setup bytes) (lines.Batch server places) []
unfolding batch_line
batch_again setup bytes server places s below some few =
    let v = server_again setup bytes server (number_parts places) s below in
    let n = numbers_again BATCH_MOST v.rest places v.later few in
    record { rest = n.rest; is = rw (v.is, n.is, le-leb 1 (length places) some) refl; later = n.later }

nothing_again : (setup : Setup) (bytes : List ℕ) → AreSaid bytes [] → line_of setup bytes ≡ Some lines.Skipped
unfolding line_of line_from
nothing_again setup bytes s = ap (line_from setup) s

pub line_is : (setup : Setup) (bytes : List ℕ) (line : Line) → AreSaid bytes (line_parts line) → IsWithin setup line → line_of setup bytes ≡ Some line
unfolding line_after call_line issue_line retry_line deliver_line batch_line take_line remind_line tick_line fuse_line stop_line restart_line walk_line bulk_line rmdir_line feed_line promote_line
line_is setup bytes lines.Skipped s within = nothing_again setup bytes s
line_is setup bytes (lines.Call client call) s within = tail_again setup bytes verbs.Call (lines.Call client call) (Number client ∷ call_parts call) s (λ rest t. let a = asked_again setup rest client call t within.0 within.1 in record { rest = a.rest; is = rw a.is refl; later = a.later })
line_is setup bytes (lines.Issue client call) s within = tail_again setup bytes verbs.Issue (lines.Issue client call) (Number client ∷ call_parts call) s (λ rest t. let a = asked_again setup rest client call t within.0 within.1 in record { rest = a.rest; is = rw a.is refl; later = a.later })
line_is setup bytes (lines.Retry client) s within = tail_again setup bytes verbs.Retry (lines.Retry client) (Number client ∷ []) s (λ rest t. let c = client_again setup rest client [] t within in record { rest = c.rest; is = rw c.is refl; later = c.later })
line_is setup bytes (lines.Deliver place) s within = tail_again setup bytes verbs.Deliver (lines.Deliver place) (Number place ∷ []) s (λ rest t. let n = number_again rest place [] t in record { rest = n.rest; is = rw n.is refl; later = n.later })
line_is setup bytes (lines.Batch server places) s within = tail_again setup bytes verbs.Batch (lines.Batch server places) (Number server ∷ number_parts places) s (λ rest t. batch_again setup rest server places t within.0 within.1 within.2)
line_is setup bytes (lines.Take client place) s within = tail_again setup bytes verbs.Take (lines.Take client place) (Number client ∷ Number place ∷ []) s (λ rest t. let c = client_again setup rest client (Number place ∷ []) t within in let n = number_again c.rest place [] c.later in record { rest = n.rest; is = rw (c.is, n.is) refl; later = n.later })
line_is setup bytes lines.Settle s within = tail_again setup bytes verbs.Settle lines.Settle [] s (λ rest t. record { rest = rest; is = refl; later = t })
line_is setup bytes (lines.Remind server) s within = tail_again setup bytes verbs.Remind (lines.Remind server) (Number server ∷ []) s (λ rest t. let v = server_again setup rest server [] t within in record { rest = v.rest; is = rw v.is refl; later = v.later })
line_is setup bytes (lines.Tick by) s within = tail_again setup bytes verbs.Tick (lines.Tick by) (Number by ∷ []) s (λ rest t. let n = within_again 1 TICK_MOST rest by [] t within.0 within.1 in record { rest = n.rest; is = rw n.is refl; later = n.later })
line_is setup bytes (lines.Fuse server calls) s within = tail_again setup bytes verbs.Fuse (lines.Fuse server calls) (Number server ∷ Number calls ∷ []) s (λ rest t. let v = server_again setup rest server (Number calls ∷ []) t within.0 in let n = within_again 0 FUSE_MOST v.rest calls [] v.later (omega arith) within.1 in record { rest = n.rest; is = rw (v.is, n.is) refl; later = n.later })
line_is setup bytes (lines.Stop server) s within = tail_again setup bytes verbs.Stop (lines.Stop server) (Number server ∷ []) s (λ rest t. let v = server_again setup rest server [] t within in record { rest = v.rest; is = rw v.is refl; later = v.later })
line_is setup bytes (lines.Restart server) s within = tail_again setup bytes verbs.Restart (lines.Restart server) (Number server ∷ []) s (λ rest t. let v = server_again setup rest server [] t within in record { rest = v.rest; is = rw v.is refl; later = v.later })
line_is setup bytes (lines.Walk client path) s within = tail_again setup bytes verbs.Walk (lines.Walk client path) (Number client ∷ Raw path ∷ []) s (λ rest t. let c = client_again setup rest client (Raw path ∷ []) t within in let p = text_again (word_at c.rest) path [] c.later in record { rest = p.rest; is = ap (λ o. o >>= (λ client. word_at client.1 >>= (λ path. Some (lines.Walk client.0 path.0, path.1)))) c.is ∙ ap (λ o. o >>= (λ path. Some (lines.Walk client path.0, path.1))) p.is; later = p.later })
line_is setup bytes (lines.Bulk client dir name json) s within = tail_again setup bytes verbs.Bulk (lines.Bulk client dir name json) (Number client ∷ Number dir ∷ Named name ∷ Rest json ∷ []) s (λ rest t. let c = client_again setup rest client (Number dir ∷ Named name ∷ Rest json ∷ []) t within.0 in let p = place_again c.rest dir name (Rest json ∷ []) c.later within.1 in let j = text_again (rest_at p.rest) json [] p.later in record { rest = j.rest; is = ap (λ o. o >>= (λ client. place_at client.1 >>= (λ place. rest_at place.2 >>= (λ json. Some (lines.Bulk client.0 place.0 place.1 json.0, json.1))))) c.is ∙ ap (λ o. o >>= (λ place. rest_at place.2 >>= (λ json. Some (lines.Bulk client place.0 place.1 json.0, json.1)))) p.is ∙ ap (λ o. o >>= (λ json. Some (lines.Bulk client dir name json.0, json.1))) j.is; later = j.later })
line_is setup bytes (lines.Rmdir client dir name) s within = tail_again setup bytes verbs.Rmdir (lines.Rmdir client dir name) (Number client ∷ Number dir ∷ Named name ∷ []) s (λ rest t. let c = client_again setup rest client (Number dir ∷ Named name ∷ []) t within.0 in let p = place_again c.rest dir name [] c.later within.1 in record { rest = p.rest; is = rw (c.is, p.is) refl; later = p.later })
line_is setup bytes (lines.Feed server) s within = tail_again setup bytes verbs.Feed (lines.Feed server) (Number server ∷ []) s (λ rest t. let v = server_again setup rest server [] t within in record { rest = v.rest; is = rw v.is refl; later = v.later })
line_is setup bytes (lines.Promote server) s within = tail_again setup bytes verbs.Promote (lines.Promote server) (Number server ∷ []) s (λ rest t. let v = server_again setup rest server [] t within in record { rest = v.rest; is = rw v.is refl; later = v.later })

-- ---- what is found is what the bytes say

-- a step that found something
record Stepped {A B : Type 0} (found : Option A) (next : A → Option B) (end : B) : Type 0 where
  value : A
  first : found ≡ Some value
  second : next value ≡ Some end

step : {A B : Type 0} (found : Option A) (next : A → Option B) (end : B) → (found >>= next) ≡ Some end → Stepped found next end
step None next end is = absurd cc
step (Some value) next end is = record { value = value; first = refl; second = is }

-- parts in front of more
abbrev with_parts : List Part → List Part → List Part
with_parts [] more = more
with_parts (part ∷ parts) more = part ∷ with_parts parts more

-- what is found behind more bytes completes them
abbrev Completes : List ℕ → List Part → List ℕ → Type 0
Completes bytes parts rest = (more : List Part) → AreSaid rest more → AreSaid bytes (with_parts parts more)

-- a piece that was found, behind which more parts are said
said_at : (found : Option (List ℕ × List ℕ)) (piece : List ℕ × List ℕ) (part : Part) (more : List Part) → found ≡ Some piece → IsSpelled piece.0 part → AreSaid piece.1 more → MatchOption found ⊥ (λ piece. IsSpelled piece.0 part × AreSaid piece.1 more)
said_at found piece part more is spelled later = subst (λ o. MatchOption o ⊥ (λ piece. IsSpelled piece.0 part × AreSaid piece.1 more)) (sym is) (spelled, later)

number_read : (bytes : List ℕ) (x : ℕ × List ℕ) → number_at bytes ≡ Some x → Completes bytes (Number x.0 ∷ []) x.1
unfolding number_at
number_read bytes x found more later =
    let w = step (word_at bytes) (λ w. number_of w.0 >>= (λ n. Some (n, w.1))) x found in
    let n = step (number_of w.value.0) (λ n. Some (n, w.value.1)) x w.second in
    let number = number_found w.value.0 n.value n.first in
    let same : (n.value, w.value.1) ≡ x = same_Some (n.value, w.value.1) x n.second in
    said_at (word_at bytes) w.value (Number x.0) more w.first
    (number.is ∙ ap (λ (p : ℕ × List ℕ). decimal p.0) same, subst (λ (p : ℕ × List ℕ). p.0 < 2 ^ 64) same number.fits)
    (subst (λ (p : ℕ × List ℕ). AreSaid p.1 more) (sym same) later)

-- a number in a range
record Within (least most number : ℕ) (bytes : List ℕ) (rest : List ℕ) : Type 0 where
  low : least ≤ number
  high : number ≤ most
  read : Completes bytes (Number number ∷ []) rest

within_read : (least most : ℕ) (bytes : List ℕ) (x : ℕ × List ℕ) → number_within least most bytes ≡ Some x → Within least most x.0 bytes x.1
unfolding number_within
within_read least most bytes x found =
    let n = step (number_at bytes) (λ n. cond (nat_le least n.0 && nat_le n.0 most) (Some n) None) x found in
    let tests = cond_some (nat_le least n.value.0 && nat_le n.value.0 most) n.value x n.second in
    let both = and_parts (nat_le least n.value.0) (nat_le n.value.0 most) tests.0 in
    subst (λ (x : ℕ × List ℕ). Within least most x.0 bytes x.1) tests.1 (record { low = leb-true least n.value.0 both.0; high = leb-true n.value.0 most both.1; read = number_read bytes n.value n.first })

record Below (setup : Setup) (server : ℕ) (bytes rest : List ℕ) : Type 0 where
  below : server < setup.servers
  read : Completes bytes (Number server ∷ []) rest

server_read : (setup : Setup) (bytes : List ℕ) (x : ℕ × List ℕ) → server_at setup bytes ≡ Some x → Below setup x.0 bytes x.1
unfolding server_at
server_read setup bytes x found =
    let n = step (number_at bytes) (λ n. cond (nat_lt n.0 setup.servers) (Some n) None) x found in
    let tests = cond_some (nat_lt n.value.0 setup.servers) n.value x n.second in
    subst (λ (x : ℕ × List ℕ). Below setup x.0 bytes x.1) tests.1 (record { below = ltb-true n.value.0 setup.servers tests.0; read = number_read bytes n.value n.first })

name_read : (bytes : List ℕ) (x : List ℕ × List ℕ) → name_at bytes ≡ Some x → Completes bytes (Named x.0 ∷ []) x.1
unfolding name_at name_of
name_read bytes x found more later =
    let w = step (word_at bytes) (λ w. name_of w.0 >>= (λ n. Some (n, w.1))) x found in
    let n = step (name_of w.value.0) (λ n. Some (n, w.value.1)) x w.second in
    let text = step (unescaped w.value.0) checked_name n.value n.first in
    let tests = cond_some (is_name text.value) text.value n.value text.second in
    let spelled = subst (SpellsName w.value.0) tests.1 (name_found w.value.0 text.value text.first) in
    let named : IsTrue (is_name n.value) = ap is_name (sym tests.1) ∙ tests.0 in
    let same : (n.value, w.value.1) ≡ x = same_Some (n.value, w.value.1) x n.second in
    said_at (word_at bytes) w.value (Named x.0) more w.first
    (subst (λ (p : List ℕ × List ℕ). SpellsName w.value.0 p.0 × IsTrue (is_name p.0)) same (spelled, named))
    (subst (λ (p : List ℕ × List ℕ). AreSaid p.1 more) (sym same) later)

-- a directory, and a name in it
record Placed (bytes : List ℕ) (dir : ℕ) (name rest : List ℕ) : Type 0 where
  within : IsTrue (is_directory dir)
  read : Completes bytes (Number dir ∷ Named name ∷ []) rest

-- a directory
record Directory (dir : ℕ) (bytes rest : List ℕ) : Type 0 where
  within : IsTrue (is_directory dir)
  read : Completes bytes (Number dir ∷ []) rest

directory_read : (bytes : List ℕ) (x : ℕ × List ℕ) → directory_at bytes ≡ Some x → Directory x.0 bytes x.1
unfolding directory_at
directory_read bytes x found =
    let n = step (number_at bytes) (λ n. cond (is_directory n.0) (Some n) None) x found in
    let tests = cond_some (is_directory n.value.0) n.value x n.second in
    subst (λ (x : ℕ × List ℕ). Directory x.0 bytes x.1) tests.1 (record { within = tests.0; read = number_read bytes n.value n.first })

place_read : (bytes : List ℕ) (x : ℕ × List ℕ × List ℕ) → place_at bytes ≡ Some x → Placed bytes x.0 x.1 x.2
unfolding place_at
place_read bytes x found =
    let d = step (directory_at bytes) (λ dir. name_at dir.1 >>= (λ name. Some (dir.0, name.0, name.1))) x found in
    let n = step (name_at d.value.1) (λ name. Some (d.value.0, name.0, name.1)) x d.second in
    let dir = directory_read bytes d.value d.first in
    let name = name_read d.value.1 n.value n.first in
    subst (λ (x : ℕ × List ℕ × List ℕ). Placed bytes x.0 x.1 x.2) (same_Some (d.value.0, n.value.0, n.value.1) x n.second)
    (record { within = dir.within; read = λ more later. dir.read (Named n.value.0 ∷ more) (name more later) })

found_passes : {X : Type 0} (p : X → Bool) (xs : List X) (x : X) → find p xs ≡ Some x → p x ≡ true
found_passes p [] x found = absurd cc
found_passes p (y ∷ xs) x found = by (p y) refl (found_passes p xs x)
  where
    by : (t : Bool) → p y ≡ t → (find p xs ≡ Some x → p x ≡ true) → p x ≡ true
    by true is later = subst (λ z. p z ≡ true) (same_Some y x (ap (λ t. cond t (Some y) (find p xs)) (sym is) ∙ found)) is
    by false is later = later (ap (λ t. cond t (Some y) (find p xs)) (sym is) ∙ found)

verb_found : (word : List ℕ) (verb : Verb) → verb_of word ≡ Some verb → word ≡ verb_text verb
unfolding verb_of
verb_found word verb found = sym ((bytes_eq-Decides (verb_text verb) word).0 (found_passes (λ verb. pointwise nat_eq (verb_text verb) word) each_verb verb found))

call_verb_found : (word : List ℕ) (verb : CallVerb) → call_verb_of word ≡ Some verb → word ≡ call_verb_text verb
unfolding call_verb_of
call_verb_found word verb found = sym ((bytes_eq-Decides (call_verb_text verb) word).0 (found_passes (λ verb. pointwise nat_eq (call_verb_text verb) word) each_call_verb verb found))

-- no word is left
none_behind : (bytes : List ℕ) → is_end bytes ≡ true → AreSaid bytes []
unfolding is_end
none_behind bytes end = by (word_at bytes) end
  where
    by : (o : Option (List ℕ × List ℕ)) → not (is_some o) ≡ true → o ≡ None
    by None end = refl
    by (Some piece) end = absurd cc

-- the stamp that was found, and what follows it
record StampFound (bytes : List ℕ) (stamp : Option Stamp) (rest : List ℕ) : Type 0 where
  within : IsStamp stamp
  read : AreSaid rest [] → AreSaid bytes (stamp_parts stamp)

owner_in : (owner : ℕ) → owner ≤ 2 ^ 32 - 1 → owner < 2 ^ 32
owner_in owner high = omega (arith, high)

stamp_here_read : (bytes : List ℕ) (x : Option Stamp × List ℕ) → stamp_here bytes ≡ Some x → StampFound bytes x.0 x.1
unfolding stamp_here
stamp_here_read bytes x found =
    let o = step (number_within 0 (2 ^ 32 - 1) bytes) (λ owner. number_at owner.1 >>= (λ mtime. Some (Some (record { owner = owner.0; mtime = mtime.0 }), mtime.1))) x found in
    let m = step (number_at o.value.1) (λ mtime. Some (Some (record { owner = o.value.0; mtime = mtime.0 }), mtime.1)) x o.second in
    let owner = within_read 0 (2 ^ 32 - 1) bytes o.value o.first in
    let mtime = number_read o.value.1 m.value m.first in
    subst (λ (x : Option Stamp × List ℕ). StampFound bytes x.0 x.1) (same_Some (Some (record { owner = o.value.0; mtime = m.value.0 }), m.value.1) x m.second)
    (record { within = owner_in o.value.0 owner.high; read = λ end. owner.read (Number m.value.0 ∷ []) (mtime [] end) })

stamp_read : (bytes : List ℕ) (x : Option Stamp × List ℕ) → stamp_at bytes ≡ Some x → StampFound bytes x.0 x.1
unfolding stamp_at
stamp_read bytes x found = by (is_end bytes) found
  where
    by : (t : Bool) → cond t (Some (None, bytes)) (stamp_here bytes) ≡ Some x → StampFound bytes x.0 x.1
    by true found = subst (λ (x : Option Stamp × List ℕ). StampFound bytes x.0 x.1) (same_Some (None, bytes) x found) (record { within = tt; read = λ end. end })
    by false found = stamp_here_read bytes x found

-- the call that was found, and what follows it
record CallFound (bytes : List ℕ) (call : Call) (rest : List ℕ) : Type 0 where
  asked : IsAsked call
  read : AreSaid rest [] → AreSaid bytes (call_parts call)

setattr_read : (text : List ℕ) (dir : ℕ) (name bytes : List ℕ) (x : Call × List ℕ) → IsTrue (is_directory dir) → Completes text (Keyword (codes "setattr") ∷ Number dir ∷ Named name ∷ []) bytes → setattr_after dir name bytes ≡ Some x → CallFound text x.0 x.1
unfolding setattr_after
setattr_read text dir name bytes x within before found =
    let m = step (number_within 0 MODE_MOST bytes) (λ mode. number_at mode.1 >>= (λ size. stamp_at size.1 >>= (λ stamp. Some (calls.Setattr dir name mode.0 size.0 stamp.0, stamp.1)))) x found in
    let s = step (number_at m.value.1) (λ size. stamp_at size.1 >>= (λ stamp. Some (calls.Setattr dir name m.value.0 size.0 stamp.0, stamp.1))) x m.second in
    let t = step (stamp_at s.value.1) (λ stamp. Some (calls.Setattr dir name m.value.0 s.value.0 stamp.0, stamp.1)) x s.second in
    let mode = within_read 0 MODE_MOST bytes m.value m.first in
    let size = number_read m.value.1 s.value s.first in
    let stamp = stamp_read s.value.1 t.value t.first in
    subst (λ (x : Call × List ℕ). CallFound text x.0 x.1) (same_Some (calls.Setattr dir name m.value.0 s.value.0 t.value.0, t.value.1) x t.second)
    (record {
      asked = record { verb = refl; made = and_from (is_directory dir) (nat_le m.value.0 MODE_MOST) within (le-leb m.value.0 MODE_MOST mode.high); stamp = stamp.within };
      read = λ end. before (Number m.value.0 ∷ Number s.value.0 ∷ stamp_parts t.value.0) (mode.read (Number s.value.0 ∷ stamp_parts t.value.0) (size (stamp_parts t.value.0) (stamp.read end)));
    })

after_read : (verb : CallVerb) (text bytes : List ℕ) (x : Call × List ℕ) → Completes text (Keyword (call_verb_text verb) ∷ []) bytes → call_after verb bytes ≡ Some x → CallFound text x.0 x.1
unfolding call_after
after_read asked.Create text bytes x before found =
    let p = step (place_at bytes) (λ place. Some (calls.Create place.0 place.1, place.2)) x found in
    let place = place_read bytes p.value p.first in
    subst (λ (x : Call × List ℕ). CallFound text x.0 x.1) (same_Some (calls.Create p.value.0 p.value.1, p.value.2) x p.second)
    (record { asked = record { verb = refl; made = place.within; stamp = tt }; read = λ end. before (Number p.value.0 ∷ Named p.value.1 ∷ []) (place.read [] end) })
after_read asked.Mkdir text bytes x before found =
    let p = step (place_at bytes) (λ place. Some (calls.Mkdir place.0 place.1, place.2)) x found in
    let place = place_read bytes p.value p.first in
    subst (λ (x : Call × List ℕ). CallFound text x.0 x.1) (same_Some (calls.Mkdir p.value.0 p.value.1, p.value.2) x p.second)
    (record { asked = record { verb = refl; made = place.within; stamp = tt }; read = λ end. before (Number p.value.0 ∷ Named p.value.1 ∷ []) (place.read [] end) })
after_read asked.Remove text bytes x before found =
    let p = step (place_at bytes) (λ place. Some (calls.Remove place.0 place.1, place.2)) x found in
    let place = place_read bytes p.value p.first in
    subst (λ (x : Call × List ℕ). CallFound text x.0 x.1) (same_Some (calls.Remove p.value.0 p.value.1, p.value.2) x p.second)
    (record { asked = record { verb = refl; made = place.within; stamp = tt }; read = λ end. before (Number p.value.0 ∷ Named p.value.1 ∷ []) (place.read [] end) })
after_read asked.Lookup text bytes x before found =
    let p = step (place_at bytes) (λ place. Some (calls.Lookup place.0 place.1, place.2)) x found in
    let place = place_read bytes p.value p.first in
    subst (λ (x : Call × List ℕ). CallFound text x.0 x.1) (same_Some (calls.Lookup p.value.0 p.value.1, p.value.2) x p.second)
    (record { asked = record { verb = refl; made = place.within; stamp = tt }; read = λ end. before (Number p.value.0 ∷ Named p.value.1 ∷ []) (place.read [] end) })
after_read asked.Setattr text bytes x before found =
    let p = step (place_at bytes) (λ place. setattr_after place.0 place.1 place.2) x found in
    let place = place_read bytes p.value p.first in
    setattr_read text p.value.0 p.value.1 p.value.2 x place.within (λ more later. before (Number p.value.0 ∷ Named p.value.1 ∷ more) (place.read more later)) p.second
after_read asked.Scan text bytes x before found =
    let d = step (directory_at bytes) (λ dir. Some (calls.Scan dir.0, dir.1)) x found in
    let dir = directory_read bytes d.value d.first in
    subst (λ (x : Call × List ℕ). CallFound text x.0 x.1) (same_Some (calls.Scan d.value.0, d.value.1) x d.second)
    (record { asked = record { verb = refl; made = dir.within; stamp = tt }; read = λ end. before (Number d.value.0 ∷ []) (dir.read [] end) })

call_read : (bytes : List ℕ) (x : Call × List ℕ) → call_at bytes ≡ Some x → CallFound bytes x.0 x.1
unfolding call_at
call_read bytes x found =
    let w = step (word_at bytes) (λ w. call_verb_of w.0 >>= (λ verb. call_after verb w.1)) x found in
    let v = step (call_verb_of w.value.0) (λ verb. call_after verb w.value.1) x w.second in
    after_read v.value bytes w.value.1 x (λ more later. said_at (word_at bytes) w.value (Keyword (call_verb_text v.value)) more w.first (call_verb_found w.value.0 v.value v.first) later) v.second

-- the client and the call that were found, and what follows them
record AskFound (setup : Setup) (bytes : List ℕ) (client : ℕ) (call : Call) (rest : List ℕ) : Type 0 where
  client_in : IsClient setup client
  asked : IsAsked call
  read : AreSaid rest [] → AreSaid bytes (Number client ∷ call_parts call)

asked_read : (setup : Setup) (bytes : List ℕ) (x : ℕ × Call × List ℕ) → asked_at setup bytes ≡ Some x → AskFound setup bytes x.0 x.1 x.2
unfolding asked_at
asked_read setup bytes x found =
    let c = step (client_at setup bytes) (λ client. call_at client.1 >>= (λ call. Some (client.0, call.0, call.1))) x found in
    let d = step (call_at c.value.1) (λ call. Some (c.value.0, call.0, call.1)) x c.second in
    let client = within_read 1 setup.clients bytes c.value c.first in
    let call = call_read c.value.1 d.value d.first in
    subst (λ (x : ℕ × Call × List ℕ). AskFound setup bytes x.0 x.1 x.2) (same_Some (c.value.0, d.value.0, d.value.1) x d.second)
    (record { client_in = (client.low, client.high); asked = call.asked; read = λ end. client.read (call_parts d.value.0) (call.read end) })

-- a word as it stands, and the rest as it stands
raw_read : (bytes : List ℕ) (x : List ℕ × List ℕ) → word_at bytes ≡ Some x → Completes bytes (Raw x.0 ∷ []) x.1
raw_read bytes x found more later = said_at (word_at bytes) x (Raw x.0) more found refl later

rest_read : (bytes : List ℕ) (x : List ℕ × List ℕ) → rest_at bytes ≡ Some x → Completes bytes (Rest x.0 ∷ []) x.1
rest_read bytes x found more later = said_at (rest_at bytes) x (Rest x.0) more found refl later

-- the numbers that were found, and what follows them
record NumbersFound (most : ℕ) (bytes : List ℕ) (numbers : List ℕ) (rest : List ℕ) : Type 0 where
  few : length numbers ≤ most
  read : AreSaid rest [] → AreSaid bytes (number_parts numbers)

more_few : (numbers : List ℕ) (number most : ℕ) → length numbers ≤ most → length (number ∷ numbers) ≤ suc most
more_few numbers number most few = omega (arith, few)

none_found : (most : ℕ) (bytes : List ℕ) (x : List ℕ × List ℕ) → Some ([], bytes) ≡ Some x → NumbersFound most bytes x.0 x.1
none_found most bytes x found = subst (λ (x : List ℕ × List ℕ). NumbersFound most bytes x.0 x.1) (same_Some ([], bytes) x found) (record { few = omega arith; read = λ end. end })

numbers_read : (most : ℕ) (bytes : List ℕ) (x : List ℕ × List ℕ) → numbers_at most bytes ≡ Some x → NumbersFound most bytes x.0 x.1
unfolding numbers_at
numbers_read zero bytes x found = none_found zero bytes x found
numbers_read (suc most) bytes x found = by (is_end bytes) found (numbers_read most)
  where
    by : (t : Bool) → cond t (Some ([], bytes)) (number_at bytes >>= (λ number. numbers_at most number.1 >>= (λ more. Some (number.0 ∷ more.0, more.1)))) ≡ Some x → ((rest : List ℕ) (y : List ℕ × List ℕ) → numbers_at most rest ≡ Some y → NumbersFound most rest y.0 y.1) → NumbersFound (suc most) bytes x.0 x.1
    by true found later = none_found (suc most) bytes x found
    by false found later =
        let n = step (number_at bytes) (λ number. numbers_at most number.1 >>= (λ more. Some (number.0 ∷ more.0, more.1))) x found in
        let m = step (numbers_at most n.value.1) (λ more. Some (n.value.0 ∷ more.0, more.1)) x n.second in
        let behind = later n.value.1 m.value m.first in
        subst (λ (x : List ℕ × List ℕ). NumbersFound (suc most) bytes x.0 x.1) (same_Some (n.value.0 ∷ m.value.0, m.value.1) x m.second)
        (record { few = more_few m.value.0 n.value.0 most behind.few; read = λ end. number_read bytes n.value n.first (number_parts m.value.0) (behind.read end) })

-- the line that was found behind its first word, and what follows it
record LineFound (setup : Setup) (bytes : List ℕ) (line : Line) (rest : List ℕ) : Type 0 where
  within : IsWithin setup line
  read : AreSaid rest [] → AreSaid bytes (line_parts line)

abbrev Finds : Setup → List ℕ → Line × List ℕ → Type 0
Finds setup text x = LineFound setup text x.0 x.1

batch_found : (setup : Setup) (text bytes : List ℕ) (x : Line × List ℕ) → Completes text (Keyword (codes "batch") ∷ []) bytes → batch_line setup bytes ≡ Some x → Finds setup text x
unfolding batch_line
batch_found setup text bytes x before found =
    let s = step (server_at setup bytes) (λ server. numbers_at BATCH_MOST server.1 >>= (λ places. cond (nat_le 1 (length places.0)) (Some (lines.Batch server.0 places.0, places.1)) None)) x found in
    let n = step (numbers_at BATCH_MOST s.value.1) (λ places. cond (nat_le 1 (length places.0)) (Some (lines.Batch s.value.0 places.0, places.1)) None) x s.second in
    let tests = cond_some (nat_le 1 (length n.value.0)) (lines.Batch s.value.0 n.value.0, n.value.1) x n.second in
    let server = server_read setup bytes s.value s.first in
    let places = numbers_read BATCH_MOST s.value.1 n.value n.first in
    subst (Finds setup text) tests.1
    (record {
      within = (server.below, leb-true 1 (length n.value.0) tests.0, places.few);
      read = λ end. before (Number s.value.0 ∷ number_parts n.value.0) (server.read (number_parts n.value.0) (places.read end));
    })

after_found : (setup : Setup) (verb : Verb) (text bytes : List ℕ) (x : Line × List ℕ) → Completes text (Keyword (verb_text verb) ∷ []) bytes → line_after verb setup bytes ≡ Some x → Finds setup text x
unfolding line_after call_line issue_line retry_line deliver_line batch_line take_line remind_line tick_line fuse_line stop_line restart_line walk_line bulk_line rmdir_line feed_line promote_line
after_found setup verbs.Call text bytes x before found =
    let a = step (asked_at setup bytes) (λ asked. Some (lines.Call asked.0 asked.1, asked.2)) x found in
    let ask = asked_read setup bytes a.value a.first in
    subst (Finds setup text) (same_Some (lines.Call a.value.0 a.value.1, a.value.2) x a.second)
    (record { within = (ask.client_in, ask.asked); read = λ end. before (Number a.value.0 ∷ call_parts a.value.1) (ask.read end) })
after_found setup verbs.Issue text bytes x before found =
    let a = step (asked_at setup bytes) (λ asked. Some (lines.Issue asked.0 asked.1, asked.2)) x found in
    let ask = asked_read setup bytes a.value a.first in
    subst (Finds setup text) (same_Some (lines.Issue a.value.0 a.value.1, a.value.2) x a.second)
    (record { within = (ask.client_in, ask.asked); read = λ end. before (Number a.value.0 ∷ call_parts a.value.1) (ask.read end) })
after_found setup verbs.Retry text bytes x before found =
    let c = step (client_at setup bytes) (λ client. Some (lines.Retry client.0, client.1)) x found in
    let client = within_read 1 setup.clients bytes c.value c.first in
    subst (Finds setup text) (same_Some (lines.Retry c.value.0, c.value.1) x c.second)
    (record { within = (client.low, client.high); read = λ end. before (Number c.value.0 ∷ []) (client.read [] end) })
after_found setup verbs.Deliver text bytes x before found =
    let n = step (number_at bytes) (λ place. Some (lines.Deliver place.0, place.1)) x found in
    subst (Finds setup text) (same_Some (lines.Deliver n.value.0, n.value.1) x n.second)
    (record { within = tt; read = λ end. before (Number n.value.0 ∷ []) (number_read bytes n.value n.first [] end) })
after_found setup verbs.Batch text bytes x before found = batch_found setup text bytes x before found
after_found setup verbs.Take text bytes x before found =
    let c = step (client_at setup bytes) (λ client. number_at client.1 >>= (λ place. Some (lines.Take client.0 place.0, place.1))) x found in
    let n = step (number_at c.value.1) (λ place. Some (lines.Take c.value.0 place.0, place.1)) x c.second in
    let client = within_read 1 setup.clients bytes c.value c.first in
    subst (Finds setup text) (same_Some (lines.Take c.value.0 n.value.0, n.value.1) x n.second)
    (record { within = (client.low, client.high); read = λ end. before (Number c.value.0 ∷ Number n.value.0 ∷ []) (client.read (Number n.value.0 ∷ []) (number_read c.value.1 n.value n.first [] end)) })
after_found setup verbs.Settle text bytes x before found =
    subst (Finds setup text) (same_Some (lines.Settle, bytes) x found) (record { within = tt; read = λ end. before [] end })
after_found setup verbs.Remind text bytes x before found =
    let s = step (server_at setup bytes) (λ server. Some (lines.Remind server.0, server.1)) x found in
    let server = server_read setup bytes s.value s.first in
    subst (Finds setup text) (same_Some (lines.Remind s.value.0, s.value.1) x s.second)
    (record { within = server.below; read = λ end. before (Number s.value.0 ∷ []) (server.read [] end) })
after_found setup verbs.Tick text bytes x before found =
    let n = step (number_within 1 TICK_MOST bytes) (λ by. Some (lines.Tick by.0, by.1)) x found in
    let by = within_read 1 TICK_MOST bytes n.value n.first in
    subst (Finds setup text) (same_Some (lines.Tick n.value.0, n.value.1) x n.second)
    (record { within = (by.low, by.high); read = λ end. before (Number n.value.0 ∷ []) (by.read [] end) })
after_found setup verbs.Fuse text bytes x before found =
    let s = step (server_at setup bytes) (λ server. number_within 0 FUSE_MOST server.1 >>= (λ calls. Some (lines.Fuse server.0 calls.0, calls.1))) x found in
    let n = step (number_within 0 FUSE_MOST s.value.1) (λ calls. Some (lines.Fuse s.value.0 calls.0, calls.1)) x s.second in
    let server = server_read setup bytes s.value s.first in
    let calls = within_read 0 FUSE_MOST s.value.1 n.value n.first in
    subst (Finds setup text) (same_Some (lines.Fuse s.value.0 n.value.0, n.value.1) x n.second)
    (record { within = (server.below, calls.high); read = λ end. before (Number s.value.0 ∷ Number n.value.0 ∷ []) (server.read (Number n.value.0 ∷ []) (calls.read [] end)) })
after_found setup verbs.Stop text bytes x before found =
    let s = step (server_at setup bytes) (λ server. Some (lines.Stop server.0, server.1)) x found in
    let server = server_read setup bytes s.value s.first in
    subst (Finds setup text) (same_Some (lines.Stop s.value.0, s.value.1) x s.second)
    (record { within = server.below; read = λ end. before (Number s.value.0 ∷ []) (server.read [] end) })
after_found setup verbs.Restart text bytes x before found =
    let s = step (server_at setup bytes) (λ server. Some (lines.Restart server.0, server.1)) x found in
    let server = server_read setup bytes s.value s.first in
    subst (Finds setup text) (same_Some (lines.Restart s.value.0, s.value.1) x s.second)
    (record { within = server.below; read = λ end. before (Number s.value.0 ∷ []) (server.read [] end) })
after_found setup verbs.Walk text bytes x before found =
    let c = step (client_at setup bytes) (λ client. word_at client.1 >>= (λ path. Some (lines.Walk client.0 path.0, path.1))) x found in
    let w = step (word_at c.value.1) (λ path. Some (lines.Walk c.value.0 path.0, path.1)) x c.second in
    let client = within_read 1 setup.clients bytes c.value c.first in
    subst (Finds setup text) (same_Some (lines.Walk c.value.0 w.value.0, w.value.1) x w.second)
    (record { within = (client.low, client.high); read = λ end. before (Number c.value.0 ∷ Raw w.value.0 ∷ []) (client.read (Raw w.value.0 ∷ []) (raw_read c.value.1 w.value w.first [] end)) })
after_found setup verbs.Bulk text bytes x before found =
    let c = step (client_at setup bytes) (λ client. place_at client.1 >>= (λ place. rest_at place.2 >>= (λ json. Some (lines.Bulk client.0 place.0 place.1 json.0, json.1)))) x found in
    let p = step (place_at c.value.1) (λ place. rest_at place.2 >>= (λ json. Some (lines.Bulk c.value.0 place.0 place.1 json.0, json.1))) x c.second in
    let j = step (rest_at p.value.2) (λ json. Some (lines.Bulk c.value.0 p.value.0 p.value.1 json.0, json.1)) x p.second in
    let client = within_read 1 setup.clients bytes c.value c.first in
    let place = place_read c.value.1 p.value p.first in
    subst (Finds setup text) (same_Some (lines.Bulk c.value.0 p.value.0 p.value.1 j.value.0, j.value.1) x j.second)
    (record { within = ((client.low, client.high), place.within); read = λ end. before (Number c.value.0 ∷ Number p.value.0 ∷ Named p.value.1 ∷ Rest j.value.0 ∷ []) (client.read (Number p.value.0 ∷ Named p.value.1 ∷ Rest j.value.0 ∷ []) (place.read (Rest j.value.0 ∷ []) (rest_read p.value.2 j.value j.first [] end))) })
after_found setup verbs.Rmdir text bytes x before found =
    let c = step (client_at setup bytes) (λ client. place_at client.1 >>= (λ place. Some (lines.Rmdir client.0 place.0 place.1, place.2))) x found in
    let p = step (place_at c.value.1) (λ place. Some (lines.Rmdir c.value.0 place.0 place.1, place.2)) x c.second in
    let client = within_read 1 setup.clients bytes c.value c.first in
    let place = place_read c.value.1 p.value p.first in
    subst (Finds setup text) (same_Some (lines.Rmdir c.value.0 p.value.0 p.value.1, p.value.2) x p.second)
    (record { within = ((client.low, client.high), place.within); read = λ end. before (Number c.value.0 ∷ Number p.value.0 ∷ Named p.value.1 ∷ []) (client.read (Number p.value.0 ∷ Named p.value.1 ∷ []) (place.read [] end)) })
after_found setup verbs.Feed text bytes x before found =
    let s = step (server_at setup bytes) (λ server. Some (lines.Feed server.0, server.1)) x found in
    let server = server_read setup bytes s.value s.first in
    subst (Finds setup text) (same_Some (lines.Feed s.value.0, s.value.1) x s.second)
    (record { within = server.below; read = λ end. before (Number s.value.0 ∷ []) (server.read [] end) })
after_found setup verbs.Promote text bytes x before found =
    let s = step (server_at setup bytes) (λ server. Some (lines.Promote server.0, server.1)) x found in
    let server = server_read setup bytes s.value s.first in
    subst (Finds setup text) (same_Some (lines.Promote s.value.0, s.value.1) x s.second)
    (record { within = server.below; read = λ end. before (Number s.value.0 ∷ []) (server.read [] end) })

line_from_found : (setup : Setup) (bytes : List ℕ) (found : Option (List ℕ × List ℕ)) (line : Line) → word_at bytes ≡ found → line_from setup found ≡ Some line → AreSaid bytes (line_parts line) × IsWithin setup line
unfolding line_from
line_from_found setup bytes None line first found = subst (λ line. AreSaid bytes (line_parts line) × IsWithin setup line) (same_Some lines.Skipped line found) (first, tt)
line_from_found setup bytes (Some word) line first found =
    let v = step (verb_of word.0) (λ verb. line_after verb setup word.1 >>= (λ line. cond (is_end line.1) (Some line.0) None)) line found in
    let l = step (line_after v.value setup word.1) (λ line. cond (is_end line.1) (Some line.0) None) line v.second in
    let end = cond_some (is_end l.value.1) l.value.0 line l.second in
    let before : Completes bytes (Keyword (verb_text v.value) ∷ []) word.1 = λ more later. said_at (word_at bytes) word (Keyword (verb_text v.value)) more first (verb_found word.0 v.value v.first) later in
    let after = after_found setup v.value bytes word.1 l.value before l.first in
    subst (λ line. AreSaid bytes (line_parts line) × IsWithin setup line) end.1 (after.read (none_behind l.value.1 end.0), after.within)

pub line_found : (setup : Setup) (bytes : List ℕ) (line : Line) → line_of setup bytes ≡ Some line → AreSaid bytes (line_parts line) × IsWithin setup line
unfolding line_of
line_found setup bytes line found = line_from_found setup bytes (word_at bytes) line refl found
