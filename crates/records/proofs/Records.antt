-- The readers of heads, changes, splits and records read them exactly.
use Rattle.std.proofs.Common.{◌≡◌, ◌∙◌, sym, ap, subst, refl, ℕ, ◌-◌, ◌^◌, ◌<◌, ◌≤◌, ◌==◌, Bool, true, false, cond, List, [], ◌∷◌, ◌++◌, length, lit≤, lit<, arith, if◌then◌else◌, nat_lt, Ok}
use Rattle.std.specs.Int.{w32, w64, to_be_bytes}
use Rattle.std.proofs.Math.Nat.{pow-le-pow_right}
use Rattle.std.proofs.lemmas.Bool.Decides.{nat_tests}
use Rattle.std.proofs.lemmas.Bool.{and_parts, and_from}
use Rattle.std.proofs.lemmas.List.{append-nil}
use Rattle.bitmap.specs.Bits.{Bits}
use Rattle.mds_base.specs.declared.call.Call.{Call}
use Rattle.mds_base.specs.declared.reply.Final.{Final}
use Rattle.mds_base.specs.declared.row.Row.{Row}
use Rattle.mds_base.specs.declared.session.Session.{Session}
use Rattle.records.specs.declared.kinds.TheConstants as kinds
use Rattle.records.specs.declared.record.Record.{Record}
use Rattle.records.specs.declared.record.Record.TheVariants as records
use Rattle.records.specs.declared.record.Record.TheVariants.{Head, Served, Begin, Install, End}
use Rattle.records.specs.Spelling.{IsHead, IsServed, IsSplit, call_spelling, final_spelling, split_spelling, install_kind, SpellsBut}
use Rattle.records.specs.Installs.{install_spelling}
use Rattle.records.specs.LeastFormats.{some_stamped_of}
use Rattle.records.specs.Faults.{◌>>=◌}
use Rattle.records.specs.Reading.{call_at, final_at}
use Rattle.records.specs.ReadingRecords.{head_at, served_at, is_depth, split_at, record_kinds, record_after, record_at}
use Rattle.records.proofs.Decoding.{Follows, Seq, Ends, follows_here, same_follows}
use Rattle.records.proofs.ToCome.{both_follow, Waits, Opens, Reads, Then, Goes, goes_plainly, go_in_turn, same_goes, goes_by_test}
use Rattle.records.proofs.Fields.{OneByte, is_among, among_reads, NumberOf, number_reads}
use Rattle.records.proofs.Shapes.{Shape, Done, Byte, Number, Of, Sound, shape_reads, AllOf, each_of}
use Rattle.records.proofs.Changes.{ChangeParts, change_parts, change_is}
use Rattle.records.proofs.Calls.{directory, in_directory, of_directory, lt_on, lt_of, CallText, call_goes, go_after}
use Rattle.records.proofs.Finals.{FinalText, final_reads, final_opens}
use Rattle.records.proofs.Installs.{InstallText, install_goes}

-- ---- heads

-- a head and its spelling
pub record HeadText (text : List ℕ) (item : Record) : Type 0 where
  pub format : ℕ
  pub servers : ℕ
  pub server : ℕ
  pub threshold : ℕ
  pub item_is : item ≡ Head format servers server threshold
  pub head : IsHead format servers server threshold
  pub text_is : text ≡ format ∷ (to_be_bytes w32 servers ++ (to_be_bytes w32 server ++ to_be_bytes w32 threshold))

abbrev HeadParts : List ℕ → Record → Type 0
HeadParts = Seq (OneByte (is_among (1 ∷ []))) (λ format. Seq (NumberOf 4 1 32) (λ servers. Seq (NumberOf 4 0 (servers - 1)) (λ server. Seq (NumberOf 4 1 8000) (λ threshold. Ends (Head format servers server threshold)))))

head_parts : Follows HeadParts head_at
unfolding head_at
head_parts = both_follow (among_reads (1 ∷ []) 1 (lit< tt) refl) (λ t format s. both_follow (number_reads 1 32 (lit≤ tt) 4 (lit< tt)) (λ t servers s. let few = s.high in both_follow (number_reads 0 (servers - 1) (omega arith) 4 (omega arith)) (λ t server s. both_follow (number_reads 1 8000 (lit≤ tt) 4 (lit< tt)) (λ t threshold s. follows_here (Head format servers server threshold)))))

first_format : (format : ℕ) → is_among (1 ∷ []) format ≡ true → format ≡ 1
first_format = each_of (λ format. format ≡ 1) (1 ∷ []) (refl, tt)

head_there : (text : List ℕ) (item : Record) → HeadParts text item → HeadText text item
head_there text item s =
    let n = s.second in
    let m = n.second in
    let t = m.second in
    let below : m.value ≤ n.value - 1 = m.first.high in
    let some : 1 ≤ n.value = n.first.low in
    record {
      format = s.value;
      servers = n.value;
      server = m.value;
      threshold = t.value;
      item_is = t.second.is;
      head = record { format_is = first_format s.value s.first.passes; some_server = n.first.low; few_servers = n.first.high; below = omega arith; some_row = t.first.low; few_rows = t.first.high };
      text_is = s.parts ∙ ap (λ (u : List ℕ). u ++ s.back) s.first.text_is ∙ ap (λ (u : List ℕ). s.value ∷ u) (n.parts ∙ ap (λ (u : List ℕ). u ++ n.back) n.first.text_is
          ∙ ap (λ (u : List ℕ). to_be_bytes w32 n.value ++ u) (m.parts ∙ ap (λ (u : List ℕ). u ++ m.back) m.first.text_is
          ∙ ap (λ (u : List ℕ). to_be_bytes w32 m.value ++ u) (t.parts ∙ ap (λ (u : List ℕ). u ++ t.back) t.first.text_is ∙ ap (λ (u : List ℕ). to_be_bytes w32 t.value ++ u) t.second.none ∙ append-nil (to_be_bytes w32 t.value))));
    }

head_back : (text : List ℕ) (item : Record) → HeadText text item → HeadParts text item
head_back text item s =
    let h = s.head in
    let below = h.below in
    record {
      front = s.format ∷ [];
      back = to_be_bytes w32 s.servers ++ (to_be_bytes w32 s.server ++ to_be_bytes w32 s.threshold);
      value = s.format;
      parts = s.text_is;
      first = record { text_is = refl; byte = rw h.format_is (lit< tt); passes = rw h.format_is refl };
      second = record {
        front = to_be_bytes w32 s.servers;
        back = to_be_bytes w32 s.server ++ to_be_bytes w32 s.threshold;
        value = s.servers;
        parts = refl;
        first = record { low = h.some_server; high = h.few_servers; text_is = refl };
        second = record {
          front = to_be_bytes w32 s.server;
          back = to_be_bytes w32 s.threshold;
          value = s.server;
          parts = refl;
          first = record { low = omega arith; high = omega arith; text_is = refl };
          second = record {
            front = to_be_bytes w32 s.threshold;
            back = [];
            value = s.threshold;
            parts = sym (append-nil (to_be_bytes w32 s.threshold));
            first = record { low = h.some_row; high = h.few_rows; text_is = refl };
            second = record { none = refl; is = s.item_is };
          };
        };
      };
    }

pub head_reads : Follows HeadText head_at
head_reads = same_follows head_there head_back head_parts

-- ---- changes with their replies

-- a change with its reply, and its spelling
pub record ServedText (missing : ℕ) (text : List ℕ) (item : Record) : Type 0 where
  pub client : ℕ
  pub seq : ℕ
  pub part : ℕ
  pub call : Call
  pub said : Final
  pub item_is : item ≡ Served client seq part call said
  pub served : IsServed missing client seq part call said
  pub text_is : text ≡ to_be_bytes w32 client ++ (to_be_bytes w64 seq ++ (to_be_bytes w32 part ++ (call_spelling call ++ final_spelling said)))

-- a call and its final
abbrev AnsweredParts : (Call → Final → Record) → ℕ → List ℕ → Record → Type 0
AnsweredParts made = Then CallText (λ call _. Seq (FinalText call) (λ said. Ends (made call said)))

answered_goes : (made : Call → Final → Record) → Goes (AnsweredParts made) (λ bytes. call_at bytes >>= λ call. final_at call.0 call.1 >>= λ said. Ok (made call.0 said.0, said.1))
answered_goes made = go_in_turn call_goes (λ text call s. (goes_plainly (both_follow (final_reads call s.change) (λ t said f. follows_here (made call said)))).reads) (λ n text call s. answered_opens n call s.change)
  where
    answered_opens : (n : ℕ) (call : Call) → ChangeParts n call → Opens (λ _. Seq (FinalText call) (λ said. Ends (made call said)))
    answered_opens n call change =
        let o = final_opens n call change in
        record { waits = record { looser = λ m n text item le s. s }; text = o.text; value = made call o.value; spelled = record { front = o.text; back = []; value = o.value; parts = sym (append-nil o.text); first = o.spelled; second = record { none = refl; is = refl } } }

abbrev ServedParts : ℕ → List ℕ → Record → Type 0
ServedParts = Then (λ _. NumberOf 4 1 64) (λ client. Then (λ _. NumberOf 8 1 (2 ^ 64 - 1)) (λ seq. Then (λ _. NumberOf 4 0 1023) (λ part. AnsweredParts (Served client seq part))))

served_parts : Goes ServedParts served_at
unfolding served_at
served_parts = go_after (number_reads 1 64 (lit≤ tt) 4 (lit< tt)) (λ client. go_after (number_reads 1 (2 ^ 64 - 1) (lit≤ tt) 8 (lit< tt)) (λ seq. go_after (number_reads 0 1023 (lit≤ tt) 4 (lit< tt)) (λ part. answered_goes (Served client seq part))))

served_there : (n : ℕ) (text : List ℕ) (item : Record) → ServedParts n text item → ServedText n text item
served_there n text item s =
    let q = s.second in
    let p = q.second in
    let c = p.second in
    let f = c.second in
    let seq_high = q.first.high in
    let part_high = p.first.high in
    let end : c.back ≡ final_spelling f.value = f.parts ∙ ap (λ (u : List ℕ). u ++ f.back) f.first.text_is ∙ ap (λ (u : List ℕ). final_spelling f.value ++ u) f.second.none ∙ append-nil (final_spelling f.value) in
    let nine : n - length c.back ≡ n - 9 = ap (λ (u : List ℕ). n - length u) end in
    record {
      client = s.value;
      seq = q.value;
      part = p.value;
      call = c.value;
      said = f.value;
      item_is = f.second.is;
      served = record { some_client = s.first.low; few_clients = s.first.high; from_one = q.first.low; fits = omega arith; below = omega arith; change = change_is (n - 9) c.value (subst (λ (m : ℕ). ChangeParts m c.value) nine c.first.change); reply = f.first.reply; numbered = f.first.numbered };
      text_is = s.parts ∙ ap (λ (u : List ℕ). u ++ s.back) s.first.text_is ∙ ap (λ (u : List ℕ). to_be_bytes w32 s.value ++ u) (q.parts ∙ ap (λ (u : List ℕ). u ++ q.back) q.first.text_is
          ∙ ap (λ (u : List ℕ). to_be_bytes w64 q.value ++ u) (p.parts ∙ ap (λ (u : List ℕ). u ++ p.back) p.first.text_is
          ∙ ap (λ (u : List ℕ). to_be_bytes w32 p.value ++ u) (c.parts ∙ ap (λ (u : List ℕ). u ++ c.back) c.first.text_is ∙ ap (λ (u : List ℕ). call_spelling c.value ++ u) end)));
    }

served_back : (n : ℕ) (text : List ℕ) (item : Record) → ServedText n text item → ServedParts n text item
served_back n text item s =
    let v = s.served in
    let fits = v.fits in
    let below = v.below in
    record {
      front = to_be_bytes w32 s.client;
      back = to_be_bytes w64 s.seq ++ (to_be_bytes w32 s.part ++ (call_spelling s.call ++ final_spelling s.said));
      value = s.client;
      parts = s.text_is;
      first = record { low = v.some_client; high = v.few_clients; text_is = refl };
      second = record {
        front = to_be_bytes w64 s.seq;
        back = to_be_bytes w32 s.part ++ (call_spelling s.call ++ final_spelling s.said);
        value = s.seq;
        parts = refl;
        first = record { low = v.from_one; high = omega arith; text_is = refl };
        second = record {
          front = to_be_bytes w32 s.part;
          back = call_spelling s.call ++ final_spelling s.said;
          value = s.part;
          parts = refl;
          first = record { low = omega arith; high = omega arith; text_is = refl };
          second = record {
            front = call_spelling s.call;
            back = final_spelling s.said;
            value = s.call;
            parts = refl;
            first = record { change = change_parts (n - 9) s.call v.change; text_is = refl };
            second = record {
              front = final_spelling s.said;
              back = [];
              value = s.said;
              parts = sym (append-nil (final_spelling s.said));
              first = record { reply = v.reply; numbered = v.numbered; text_is = refl };
              second = record { none = refl; is = s.item_is };
            };
          };
        };
      };
    }

pub served_goes : Goes ServedText served_at
served_goes = same_goes served_there served_back served_parts

-- ---- splits

abbrev split_of : ℕ → ℕ → ℕ → ℕ → Record
split_of kind dir part depth = if kind == kinds.RECORD_BEGIN then Begin dir part depth else End dir part depth

abbrev split_shape : ℕ → Shape Record
split_shape kind = directory (λ dir. Number 4 0 511 (λ part. Byte (is_depth part) (λ depth. Done (split_of kind dir part depth))))

deep_enough : (part : ℕ) → part ≤ 511 → is_depth part 9 ≡ true
deep_enough part small = let below : nat_lt part 512 ≡ true = grind (arith, nat_tests) in below

split_sound : (kind : ℕ) → Sound (split_shape kind)
split_sound kind = (lit≤ tt, lit< tt, λ dir _ _. (omega arith, lit< tt, λ part _ small. ((9, lit< tt, deep_enough part small), λ depth _. tt)))

split_reads : (kind : ℕ) → Follows (Of (split_shape kind)) (split_at kind)
unfolding split_at
split_reads kind = shape_reads (split_shape kind) (split_sound kind)

-- a depth of a partition
depth_parts : (part depth : ℕ) → is_depth part depth ≡ true → (depth < 10) × (part < 2 ^ depth)
depth_parts part depth on = let both = and_parts (nat_lt depth 10) (nat_lt part (2 ^ depth)) on in (lt_of depth 10 both.0, lt_of part (2 ^ depth) both.1)

depth_is : (part depth : ℕ) → depth < 10 → part < 2 ^ depth → is_depth part depth ≡ true
depth_is part depth shallow below = and_from (nat_lt depth 10) (nat_lt part (2 ^ depth)) (lt_on depth 10 shallow) (lt_on part (2 ^ depth) below)

split_made : (kind : ℕ) (text : List ℕ) (item : Record) → Of (split_shape kind) text item → (dir : ℕ) × (part : ℕ) × (depth : ℕ) × (item ≡ split_of kind dir part depth) × IsSplit dir part depth × (text ≡ split_spelling dir part depth)
split_made kind text item o =
    let depth = depth_parts o.args.1.0 o.args.1.1.0 o.ranged.1.1.0.1 in
    (o.args.0, o.args.1.0, o.args.1.1.0, o.value_is, record { directory = in_directory o.args.0 o.ranged.0; shallow = depth.0; below = depth.1 }, o.text_is)

split_read : (kind dir part depth : ℕ) → IsSplit dir part depth → Of (split_shape kind) (split_spelling dir part depth) (split_of kind dir part depth)
split_read kind dir part depth s =
    let under = s.below in
    let shallow = s.shallow in
    let most : depth ≤ 9 = omega arith in
    let few : 2 ^ depth ≤ 2 ^ 9 = pow-le-pow_right (omega arith) most in
    record { args = (dir, (part, (depth, tt))); ranged = (of_directory dir s.directory, ((omega arith, omega arith), ((omega arith, depth_is part depth s.shallow s.below), tt))); text_is = refl; value_is = refl }

-- ---- records

abbrev RecordBody : ℕ → ℕ → List ℕ → Record → Type 0
RecordBody kind n text item = cond (kind == kinds.RECORD_HEAD) (HeadText text item) (cond (kind == kinds.RECORD_OPENED) (Ends records.Opened text item) (cond (kind == kinds.RECORD_SERVED) (ServedText n text item)
    (cond (kind == kinds.RECORD_INSTALL) (InstallText false n text item) (cond (kind == kinds.RECORD_INSTALL_STAMPED) (InstallText true n text item) (Of (split_shape kind) text item)))))

body_goes : (kind : ℕ) → Goes (RecordBody kind) (record_after kind)
unfolding record_after
body_goes kind = goes_by_test (kind == kinds.RECORD_HEAD) (λ _. goes_plainly head_reads) (λ _. goes_by_test (kind == kinds.RECORD_OPENED) (λ _. goes_plainly (follows_here records.Opened)) (λ _. goes_by_test (kind == kinds.RECORD_SERVED) (λ _. served_goes)
    (λ _. goes_by_test (kind == kinds.RECORD_INSTALL) (λ _. install_goes false) (λ _. goes_by_test (kind == kinds.RECORD_INSTALL_STAMPED) (λ _. install_goes true) (λ _. goes_plainly (split_reads kind))))))

abbrev RecordParts : ℕ → List ℕ → Record → Type 0
RecordParts = Then (λ _. OneByte (is_among record_kinds)) RecordBody

record_parts : Goes RecordParts record_at
unfolding record_at
record_parts = go_after (among_reads record_kinds kinds.RECORD_HEAD (lit< tt) refl) body_goes

-- what is read after a kind is a record of this kind, and its spelling
abbrev IsBody : ℕ → Type 0
IsBody kind = (n : ℕ) (text : List ℕ) (item : Record) → RecordBody kind n text item → SpellsBut n (kind ∷ text) item

head_body : IsBody kinds.RECORD_HEAD
head_body n text item h = subst (SpellsBut n (kinds.RECORD_HEAD ∷ text)) (sym h.item_is) (h.head, ap (λ (t : List ℕ). kinds.RECORD_HEAD ∷ t) h.text_is)

opened_body : IsBody kinds.RECORD_OPENED
opened_body n text item e = subst (SpellsBut n (kinds.RECORD_OPENED ∷ text)) (sym e.is) (tt, ap (λ (t : List ℕ). kinds.RECORD_OPENED ∷ t) e.none)

served_body : IsBody kinds.RECORD_SERVED
served_body n text item v = subst (SpellsBut n (kinds.RECORD_SERVED ∷ text)) (sym v.item_is) (v.served, ap (λ (t : List ℕ). kinds.RECORD_SERVED ∷ t) v.text_is)

begin_body : IsBody kinds.RECORD_BEGIN
begin_body n text item o = let m = split_made kinds.RECORD_BEGIN text item o in subst (SpellsBut n (kinds.RECORD_BEGIN ∷ text)) (sym m.3) (m.4, ap (λ (t : List ℕ). kinds.RECORD_BEGIN ∷ t) m.5)

install_body : IsBody kinds.RECORD_INSTALL
install_body n text item i = subst (SpellsBut n (kinds.RECORD_INSTALL ∷ text)) (sym i.item_is)
    (i.install, ap (λ (t : List ℕ). kinds.RECORD_INSTALL ∷ t) i.text_is ∙ ap (λ (b : Bool). install_kind b ∷ install_spelling i.dir i.part i.depth i.bitmap i.sessions i.rows) (sym i.stamped_is))

stamped_body : IsBody kinds.RECORD_INSTALL_STAMPED
stamped_body n text item i = subst (SpellsBut n (kinds.RECORD_INSTALL_STAMPED ∷ text)) (sym i.item_is)
    (i.install, ap (λ (t : List ℕ). kinds.RECORD_INSTALL_STAMPED ∷ t) i.text_is ∙ ap (λ (b : Bool). install_kind b ∷ install_spelling i.dir i.part i.depth i.bitmap i.sessions i.rows) (sym i.stamped_is))

end_body : IsBody kinds.RECORD_END
end_body n text item o = let m = split_made kinds.RECORD_END text item o in subst (SpellsBut n (kinds.RECORD_END ∷ text)) (sym m.3) (m.4, ap (λ (t : List ℕ). kinds.RECORD_END ∷ t) m.5)

bodies : AllOf IsBody record_kinds
bodies = (head_body, (opened_body, (served_body, (begin_body, (install_body, (end_body, (stamped_body, tt)))))))

record_there : (n : ℕ) (text : List ℕ) (item : Record) → RecordParts n text item → SpellsBut n text item
record_there n text item s = subst (λ (t : List ℕ). SpellsBut n t item) (sym (s.parts ∙ ap (λ (t : List ℕ). t ++ s.back) s.first.text_is)) (each_of IsBody record_kinds bodies s.value s.first.passes n s.back item s.second)

-- a kind, and what follows it
body_of : (kind n : ℕ) (text back : List ℕ) (item : Record) → kind < 256 → is_among record_kinds kind ≡ true → text ≡ kind ∷ back → RecordBody kind n back item → RecordParts n text item
body_of kind n text back item byte among is body = record { front = kind ∷ []; back = back; value = kind; parts = is; first = record { text_is = refl; byte = byte; passes = among }; second = body }

-- an Install is read by the kind that its rows ask for
install_parts : (n : ℕ) (text : List ℕ) (dir part depth : ℕ) (bitmap : Bits) (sessions : List Session) (rows : List Row) → SpellsBut n text (Install dir part depth bitmap sessions rows) → (b : Bool) → some_stamped_of rows ≡ b → RecordParts n text (Install dir part depth bitmap sessions rows)
install_parts n text dir part depth bitmap sessions rows s false is =
    body_of kinds.RECORD_INSTALL n text (install_spelling dir part depth bitmap sessions rows) (Install dir part depth bitmap sessions rows) (lit< tt) refl (s.1 ∙ ap (λ (b : Bool). install_kind b ∷ install_spelling dir part depth bitmap sessions rows) is)
    (record { dir = dir; part = part; depth = depth; bitmap = bitmap; sessions = sessions; rows = rows; item_is = refl; install = s.0; stamped_is = is; text_is = refl })
install_parts n text dir part depth bitmap sessions rows s true is =
    body_of kinds.RECORD_INSTALL_STAMPED n text (install_spelling dir part depth bitmap sessions rows) (Install dir part depth bitmap sessions rows) (lit< tt) refl (s.1 ∙ ap (λ (b : Bool). install_kind b ∷ install_spelling dir part depth bitmap sessions rows) is)
    (record { dir = dir; part = part; depth = depth; bitmap = bitmap; sessions = sessions; rows = rows; item_is = refl; install = s.0; stamped_is = is; text_is = refl })

record_back : (n : ℕ) (text : List ℕ) (item : Record) → SpellsBut n text item → RecordParts n text item
record_back n text (Head format servers server threshold) s = body_of kinds.RECORD_HEAD n text (format ∷ (to_be_bytes w32 servers ++ (to_be_bytes w32 server ++ to_be_bytes w32 threshold))) (Head format servers server threshold) (lit< tt) refl s.1 (record { format = format; servers = servers; server = server; threshold = threshold; item_is = refl; head = s.0; text_is = refl })
record_back n text records.Opened s = body_of kinds.RECORD_OPENED n text [] records.Opened (lit< tt) refl s.1 (record { none = refl; is = refl })
record_back n text (Served client seq part call said) s =
    body_of kinds.RECORD_SERVED n text (to_be_bytes w32 client ++ (to_be_bytes w64 seq ++ (to_be_bytes w32 part ++ (call_spelling call ++ final_spelling said)))) (Served client seq part call said) (lit< tt) refl s.1
    (record { client = client; seq = seq; part = part; call = call; said = said; item_is = refl; served = s.0; text_is = refl })
record_back n text (Begin dir part depth) s = body_of kinds.RECORD_BEGIN n text (split_spelling dir part depth) (Begin dir part depth) (lit< tt) refl s.1 (split_read kinds.RECORD_BEGIN dir part depth s.0)
record_back n text (End dir part depth) s = body_of kinds.RECORD_END n text (split_spelling dir part depth) (End dir part depth) (lit< tt) refl s.1 (split_read kinds.RECORD_END dir part depth s.0)
record_back n text (Install dir part depth bitmap sessions rows) s = install_parts n text dir part depth bitmap sessions rows s (some_stamped_of rows) refl

pub record_goes : Goes SpellsBut record_at
record_goes = same_goes record_there record_back record_parts

-- records are read exactly
pub record_reads : Reads SpellsBut record_at
record_reads = record_goes.reads

pub record_waits : Waits SpellsBut
record_waits = record_goes.opens.waits
