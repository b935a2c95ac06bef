-- Text whose stops are paid, one moment after another.
use Rattle.std.proofs.Common.{◌≡◌, ◌∙◌, sym, ap, subst, refl, ℕ, zero, suc, ◌+◌, ◌-◌, ◌/◌, ◌%◌, ◌^◌, ◌<◌, ◌≤◌, Bool, true, false, not, ◌==◌, if◌then◌else◌, nat_eq, nat_lt, Option, Some, None, List, [], ◌∷◌, ◌++◌, length, get_or, append_assoc, append-nil, codes, decimal, inl, inr, arith}
use Rattle.std.specs.Prelude.{◌⊎◌}
use Rattle.std.specs.Cmp.Lexicographic.{pointwise}
use Rattle.std.specs.Fmt.{digit_glyph, digits, digits_onto}
use Rattle.std.specs.List.{AllByRecursion, slice_get}
use Rattle.std.proofs.lemmas.Bool.{true≢false, and_parts, and_from, eq-eqb, ne_eqb}
use Rattle.std.proofs.lemmas.Fmt.{decimal_injective, decimal_by_steps}
use Rattle.std.proofs.lemmas.Grind.{flat_map-append}
use Rattle.std.proofs.lemmas.List.{append_cancel_left, append_cancel_right}
use Rattle.std.proofs.lemmas.Slice.Eq.{bytes_eq-Decides}
use Rattle.mds_base.specs.Entries.{is_file, stamp_of}
use Rattle.mds_base.specs.declared.attr.Attr.{Attr}
use Rattle.mds_base.specs.declared.attr.Stamp.{Stamp}
use Rattle.mds_base.specs.declared.reply.Final.{Final}
use Rattle.mds_base.specs.declared.reply.Final.TheVariants.{Created, CreatedDir, Exists, Removed, Missing, IsDir, Set, Ids, Loaded, Stale, Sealed, NotEmpty, Late, Opened, Killed}
use Rattle.mds_base.specs.declared.reply.Reply.{Reply}
use Rattle.mds_base.specs.declared.reply.Reply.TheVariants.{Said, Found, Listed}
use Rattle.client_core.specs.declared.taken.Taken.{Taken}
use Rattle.client_core.specs.declared.taken.Taken.TheVariants as takes
use Rattle.mds_out.specs.Fused.{Fused}
use Rattle.node_store.specs.Store.{Store}
use Rattle.simulation.specs.Payments.{IsPaid, ArePaid, own_faults, armed_of, none_at, once_at}
use Rattle.simulation.proofs.Payments.{is_paid_on, are_paid_same}
use Rattle.script.specs.declared.line.Line.{Line}
use Rattle.simulation.specs.Shows.{SimulationV}
use Rattle.script.specs.Text.{stamp_text}
use Rattle.interpreter.specs.Payments.{IsPrinted, Pays, fuses_of, has_no_feed, text_of, times, stopped_line}
use Rattle.interpreter.specs.Text.{kind_text, final_text, reply_text, taken_line, server_line}

-- ---- bytes of a line

pub clean_append : (xs ys : List ℕ) → has_no_feed xs ≡ true → has_no_feed ys ≡ true → has_no_feed (xs ++ ys) ≡ true
clean_append [] ys c d = d
clean_append (x ∷ xs) ys c d =
    let both = and_parts (not (x == 10)) (has_no_feed xs) c in
    and_from (not (x == 10)) (has_no_feed (xs ++ ys)) both.0 (clean_append xs ys both.1 d)

not_feed : (b : Bool) (d : ℕ) → not ((if b then 48 + d else (87 + d)) == 10) ≡ true
not_feed true d = ap not (ne_eqb (48 + d) 10 (λ e. omega (arith, e)))
not_feed false d = ap not (ne_eqb (87 + d) 10 (λ e. omega (arith, e)))

onto_clean : (k n : ℕ) (acc : List ℕ) → has_no_feed acc ≡ true → has_no_feed (digits_onto k 10 false n acc) ≡ true
onto_clean zero n acc c = c
onto_clean (suc k) n acc c =
    let more : has_no_feed (digit_glyph false (n % 10) ∷ acc) ≡ true = and_from (not (digit_glyph false (n % 10) == 10)) (has_no_feed acc) (not_feed (nat_lt (n % 10) 10) (n % 10)) c in
    either (n / 10 == 0) (digit_glyph false (n % 10) ∷ acc) (digits_onto k 10 false (n / 10) (digit_glyph false (n % 10) ∷ acc)) more (onto_clean k (n / 10) (digit_glyph false (n % 10) ∷ acc) more)
  where
    either : (b : Bool) (xs ys : List ℕ) → has_no_feed xs ≡ true → has_no_feed ys ≡ true → has_no_feed (if b then xs else ys) ≡ true
    either true xs ys p q = p
    either false xs ys p q = q

pub decimal_clean : (n : ℕ) → has_no_feed (decimal n) ≡ true
unfolding digits
decimal_clean n = onto_clean 64 n [] refl

pub stamp_clean : (stamp : Option Stamp) → has_no_feed (stamp_text stamp) ≡ true
stamp_clean None = refl
stamp_clean (Some stamp) = clean_append (decimal stamp.owner) (32 ∷ decimal stamp.mtime) (decimal_clean stamp.owner) (decimal_clean stamp.mtime)

-- a mode and a size behind other words
sized_clean : (kind : List ℕ) (attr : Attr) → has_no_feed kind ≡ true → has_no_feed (kind ++ codes " " ++ decimal attr.mode ++ codes " " ++ decimal attr.size) ≡ true
sized_clean kind attr clean =
    clean_append (kind ++ codes " " ++ decimal attr.mode ++ codes " ") (decimal attr.size)
    (clean_append (kind ++ codes " " ++ decimal attr.mode) (codes " ") (clean_append (kind ++ codes " ") (decimal attr.mode) (clean_append kind (codes " ") clean refl) (decimal_clean attr.mode)) refl)
    (decimal_clean attr.size)

kind_clean : (attr : Attr) → has_no_feed (kind_text attr) ≡ true
kind_clean attr =
    let kind : List ℕ = if is_file attr then codes "file" else (codes "dir " ++ decimal attr.dir) in
    clean_append (kind ++ codes " " ++ decimal attr.mode ++ codes " " ++ decimal attr.size) (stamp_text (stamp_of attr))
    (sized_clean kind attr (by (is_file attr))) (stamp_clean (stamp_of attr))
  where
    by : (b : Bool) → has_no_feed (if b then codes "file" else (codes "dir " ++ decimal attr.dir)) ≡ true
    by true = refl
    by false = decimal_clean attr.dir

final_clean : (final : Final) → has_no_feed (final_text final) ≡ true
final_clean Created = refl
final_clean (CreatedDir number) = decimal_clean number
final_clean Exists = refl
final_clean Removed = refl
final_clean Missing = refl
final_clean IsDir = refl
final_clean Set = refl
final_clean (Ids first) = decimal_clean first
final_clean (Loaded count) = decimal_clean count
final_clean Stale = refl
final_clean (Sealed depth epoch) = clean_append (codes "sealed " ++ decimal depth ++ codes " ") (decimal epoch) (clean_append (codes "sealed " ++ decimal depth) (codes " ") (decimal_clean depth) refl) (decimal_clean epoch)
final_clean NotEmpty = refl
final_clean Late = refl
final_clean Opened = refl
final_clean Killed = refl

pub reply_clean : (reply : Reply) → has_no_feed (reply_text reply) ≡ true
reply_clean (Said said) = final_clean said
reply_clean (Found attr until) = kind_clean attr
reply_clean (Listed rows) = decimal_clean (length rows)

-- ---- how a line begins

no_digit : (n : ℕ) → n < 10 → 48 + n ≡ 115 → ⊥
no_digit n low is = omega (arith, low, is)

first_digit : (n : ℕ) → n < 2 ^ 64 → (more : List ℕ) → get_or (decimal n ++ more) 0 0 ≡ 115 → ⊥
first_digit n small =
    decimal_by_steps (λ n ds. (more : List ℕ) → get_or (ds ++ more) 0 0 ≡ 115 → ⊥) (λ n low more is. no_digit n low is)
    (λ n ds large none more is. none ((48 + n % 10) ∷ more) (ap (λ l. get_or l 0 0) (sym (append_assoc ds ((48 + n % 10) ∷ []) more)) ∙ is)) n small

not_down : ◌≡◌ {A = ℕ} 100 115 → ⊥
not_down e = omega (arith, e)

-- ---- lines

server_printed : (word : List ℕ) (server : ℕ) → has_no_feed word ≡ true → IsPrinted (server_line word server)
server_printed word server clean = record {
  part = word ++ decimal server;
  none = clean_append word (decimal server) clean (decimal_clean server);
  is = refl;
}

client_printed : (client seq : ℕ) (text : List ℕ) → has_no_feed text ≡ true → IsPrinted (decimal client ++ codes " " ++ decimal seq ++ codes " " ++ text ++ codes "\n")
client_printed client seq text clean = record {
  part = decimal client ++ codes " " ++ decimal seq ++ codes " " ++ text;
  none = clean_append (decimal client ++ codes " " ++ decimal seq ++ codes " ") text
      (clean_append (decimal client ++ codes " " ++ decimal seq) (codes " ") (clean_append (decimal client ++ codes " ") (decimal seq) (clean_append (decimal client) (codes " ") (decimal_clean client) refl) (decimal_clean seq)) refl)
      clean;
  is = refl;
}

-- it begins with a digit
front_more : (xs ys : List ℕ) → ((more : List ℕ) → get_or (xs ++ more) 0 0 ≡ 115 → ⊥) → (more : List ℕ) → get_or (xs ++ ys ++ more) 0 0 ≡ 115 → ⊥
front_more xs ys none more is = none (ys ++ more) (ap (λ l. get_or l 0 0) (sym (append_assoc xs ys more)) ∙ is)

client_other : (client seq : ℕ) (text : List ℕ) → client < 2 ^ 64 → get_or (decimal client ++ codes " " ++ decimal seq ++ codes " " ++ text ++ codes "\n") 0 0 ≡ 115 → ⊥
client_other client seq text low =
    front_more (decimal client ++ codes " " ++ decimal seq ++ codes " ") text
    (front_more (decimal client ++ codes " " ++ decimal seq) (codes " ") (front_more (decimal client ++ codes " ") (decimal seq) (front_more (decimal client) (codes " ") (first_digit client low)))) (codes "\n")

-- ---- how often a line is among lines

from_zero : (n : ℕ) → n ≡ 0 + n
from_zero n = omega arith

sum_assoc : (a b c : ℕ) → a + (b + c) ≡ (a + b) + c
sum_assoc a b c = omega arith

pub times_append : (line : List ℕ) (xs ys : List (List ℕ)) → times line (xs ++ ys) ≡ times line xs + times line ys
times_append line [] ys = from_zero (times line ys)
times_append line (x ∷ xs) ys = ap (λ n. (if pointwise nat_eq x line then 1 else 0) + n) (times_append line xs ys) ∙ sum_assoc (if pointwise nat_eq x line then 1 else 0) (times line xs) (times line ys)

at_most : (b c : Bool) → (b ≡ true → c ≡ true) → (if b then 1 else 0) + 0 ≤ (if c then 1 else 0)
at_most false c f = omega arith
at_most true true f = omega arith
at_most true false f = absurd (true≢false (sym (f refl)))

never : (b : Bool) → (b ≡ true → ⊥) → (if b then 1 else 0) + 0 ≤ 0
never false f = omega arith
never true f = absurd (f refl)

same_server : (s server : ℕ) → s < 2 ^ 64 → server < 2 ^ 64 → stopped_line server ≡ stopped_line s → (s == server) ≡ true
same_server s server small low same =
    eq-eqb s server (decimal_injective s server small low (sym (append_cancel_right (decimal server) (decimal s) (codes "\n") (append_cancel_left (codes "stopped ") (decimal server ++ codes "\n") (decimal s ++ codes "\n") same))))

stop_times : (s server : ℕ) → s < 2 ^ 64 → server < 2 ^ 64 → times (stopped_line s) (stopped_line server ∷ []) ≤ once_at server s
stop_times s server small low = at_most (pointwise nat_eq (stopped_line server) (stopped_line s)) (s == server) (λ is. same_server s server small low ((bytes_eq-Decides (stopped_line server) (stopped_line s)).0 is))

pub other_times : (line : List ℕ) → (get_or line 0 0 ≡ 115 → ⊥) → (s : ℕ) → times (stopped_line s) (line ∷ []) ≤ none_at s
other_times line other s = never (pointwise nat_eq line (stopped_line s)) (λ is. other (ap (λ l. get_or l 0 0) ((bytes_eq-Decides line (stopped_line s)).0 is)))

least : (n : ℕ) → 0 ≤ n
least n = omega arith

pub each_append : (xs ys : List (List ℕ)) → AllByRecursion IsPrinted xs → AllByRecursion IsPrinted ys → AllByRecursion IsPrinted (xs ++ ys)
each_append [] ys h k = k
each_append (x ∷ xs) ys h k = (h.0, each_append xs ys h.1 k)

pub text_append : (xs ys : List (List ℕ)) → text_of (xs ++ ys) ≡ text_of xs ++ text_of ys
text_append xs ys = flat_map-append {X = List ℕ} {A = ℕ} (λ l. l) xs ys

module _ {D : Type 0} (faults : D → ℕ) (lasts : D → D → Type 0) where
  -- fewer stops are paid too
  pub is_paid_fewer : (a b : Option (Store (Fused D))) (m n f : ℕ) → m ≤ n → IsPaid faults lasts a b n f → IsPaid faults lasts a b m f
  is_paid_fewer a b m n f fewer one = record { on = one.on; later = one.later; paid = paid_still one.paid }
    where
      paid_still : (n + (armed_of b + own_faults faults a) ≤ own_faults faults b + (armed_of a + f)) ⊎ (2 ^ 64 - 1 ≤ own_faults faults b) → (m + (armed_of b + own_faults faults a) ≤ own_faults faults b + (armed_of a + f)) ⊎ (2 ^ 64 - 1 ≤ own_faults faults b)
      paid_still (inl p) = inl (omega (arith, p, fewer))
      paid_still (inr p) = inr p

  pays_by : (old new : List (Store (Fused D))) (was now : List ℕ) (stops fuses : ℕ → ℕ) (printed : List (List ℕ)) → AllByRecursion IsPrinted printed → now ≡ was ++ text_of printed → ((s : ℕ) → s < 2 ^ 64 → times (stopped_line s) printed ≤ stops s)
      → ArePaid faults lasts old new stops fuses → Pays faults lasts old new was now fuses
  pays_by old new was now stops fuses printed each text few are = record {
    printed = printed;
    each = each;
    text = text;
    paid = λ s small. is_paid_fewer (slice_get old s) (slice_get new s) (times (stopped_line s) printed) (stops s) (fuses s) (few s small) (are s);
  }

  -- nothing was printed
  pub pays_none : (old new : List (Store (Fused D))) (was now : List ℕ) (stops fuses : ℕ → ℕ) → ArePaid faults lasts old new stops fuses → now ≡ was → Pays faults lasts old new was now fuses
  pays_none old new was now stops fuses are same = pays_by old new was now stops fuses [] tt (same ∙ sym (append-nil was)) (λ s small. least (stops s)) are

  -- one line
  pays_one : (old new : List (Store (Fused D))) (was now : List ℕ) (stops fuses : ℕ → ℕ) (line : List ℕ) → IsPrinted line → now ≡ was ++ line → ((s : ℕ) → s < 2 ^ 64 → times (stopped_line s) (line ∷ []) ≤ stops s)
      → ArePaid faults lasts old new stops fuses → Pays faults lasts old new was now fuses
  pays_one old new was now stops fuses line one text few are = pays_by old new was now stops fuses (line ∷ []) (one, tt) (text ∙ ap (λ l. was ++ l) (sym (append-nil line))) few are

  -- the stores are the same, and nothing was printed, or a line that tells of no stop
  pub pays_same : (old new : List (Store (Fused D))) (was now : List ℕ) → new ≡ old → now ≡ was → Pays faults lasts old new was now none_at
  pays_same old new was now stores same = pays_none old new was now none_at none_at (are_paid_same faults lasts old new stores) same

  pub pays_down : (old new : List (Store (Fused D))) (was now : List ℕ) (server : ℕ) → new ≡ old → now ≡ was ++ server_line (codes "down ") server → Pays faults lasts old new was now none_at
  pays_down old new was now server stores text =
      pays_one old new was now none_at none_at (server_line (codes "down ") server) (server_printed (codes "down ") server refl) text
      (λ s small. other_times (server_line (codes "down ") server) not_down s) (are_paid_same faults lasts old new stores)

  pays_client : (old new : List (Store (Fused D))) (was now : List ℕ) (client seq : ℕ) (text : List ℕ) → client < 2 ^ 64 → has_no_feed text ≡ true → new ≡ old → now ≡ was ++ (decimal client ++ codes " " ++ decimal seq ++ codes " " ++ text ++ codes "\n")
      → Pays faults lasts old new was now none_at
  pays_client old new was now client seq text low clean stores is =
      pays_one old new was now none_at none_at (decimal client ++ codes " " ++ decimal seq ++ codes " " ++ text ++ codes "\n") (client_printed client seq text clean) is
      (λ s small. other_times (decimal client ++ codes " " ++ decimal seq ++ codes " " ++ text ++ codes "\n") (client_other client seq text low) s) (are_paid_same faults lasts old new stores)

  pub pays_taken : (old new : List (Store (Fused D))) (was now : List ℕ) (client seq : ℕ) (taken : Taken) → client < 2 ^ 64 → new ≡ old → now ≡ was ++ taken_line client seq taken → Pays faults lasts old new was now none_at
  pays_taken old new was now client seq (takes.Answer reply) low stores is = pays_client old new was now client seq (reply_text reply) low (reply_clean reply) stores is
  pays_taken old new was now client seq (takes.Redirected part) low stores is = pays_client old new was now client seq (codes "redirect " ++ decimal part) low (decimal_clean part) stores is
  pays_taken old new was now client seq (takes.Busy part) low stores is = pays_client old new was now client seq (codes "busy " ++ decimal part) low (decimal_clean part) stores is
  pays_taken old new was now client seq (takes.Held until) low stores is = pays_client old new was now client seq (codes "held " ++ decimal until) low (decimal_clean until) stores is
  pays_taken old new was now client seq takes.Paged low stores is = pays_same old new was now stores (is ∙ append-nil was)
  pays_taken old new was now client seq takes.Ignored low stores is = pays_same old new was now stores (is ∙ append-nil was)

  -- a stop was printed
  pub pays_stop : (old new : List (Store (Fused D))) (was now : List ℕ) (server : ℕ) → server < 2 ^ 64 → ArePaid faults lasts old new (once_at server) none_at → now ≡ was ++ stopped_line server → Pays faults lasts old new was now none_at
  pays_stop old new was now server low are text =
      pays_one old new was now (once_at server) none_at (stopped_line server) (server_printed (codes "stopped ") server refl) text (λ s small. stop_times s server small low) are

  -- one moment after another
  pub pays_both : (a b c : List (Store (Fused D))) (p q r : List ℕ) (f g : ℕ → ℕ) → Pays faults lasts a b p q f → Pays faults lasts b c q r g → Pays faults lasts a c p r (λ s. f s + g s)
  pays_both a b c p q r f g one two = record {
    printed = one.printed ++ two.printed;
    each = each_append one.printed two.printed one.each two.each;
    text = two.text ∙ ap (λ t. t ++ text_of two.printed) one.text ∙ append_assoc p (text_of one.printed) (text_of two.printed) ∙ ap (λ t. p ++ t) (sym (text_append one.printed two.printed));
    paid = λ s small. subst (λ n. IsPaid faults lasts (slice_get a s) (slice_get c s) n (f s + g s)) (sym (times_append (stopped_line s) one.printed two.printed))
        (is_paid_on faults lasts (slice_get a s) (slice_get b s) (slice_get c s) (times (stopped_line s) one.printed) (times (stopped_line s) two.printed) (f s) (g s) (one.paid s small) (two.paid s small));
  }

  pub pays_next : (a b c : List (Store (Fused D))) (p q r : List ℕ) → Pays faults lasts a b p q none_at → Pays faults lasts b c q r none_at → Pays faults lasts a c p r none_at
  pays_next a b c p q r one two = pays_both a b c p q r none_at none_at one two

  -- a simulation that is the same has the same stores
  pub pays_at : (old : List (Store (Fused D))) (mid new : SimulationV (Fused D)) (was now : List ℕ) (fuses : ℕ → ℕ) → new ≡ mid → Pays faults lasts old mid.stores was now fuses → Pays faults lasts old new.stores was now fuses
  pays_at old mid new was now fuses same pays = subst (λ (s : SimulationV (Fused D)). Pays faults lasts old s.stores was now fuses) (sym same) pays

  -- by the line that was carried out
  pub pays_line : (old new : List (Store (Fused D))) (was now : List ℕ) (line other : Line) → line ≡ other → Pays faults lasts old new was now (fuses_of other) → Pays faults lasts old new was now (fuses_of line)
  pays_line old new was now line other is pays = subst (λ l. Pays faults lasts old new was now (fuses_of l)) (sym is) pays
