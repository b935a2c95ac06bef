-- What bytes say as a line.
use Rattle.std.proofs.Common.{◌≡◌, ◌∙◌, sym, ap, subst, refl, ℕ, List, [], ◌∷◌, get_or, take, drop, false, Option, Some, MatchOption, Result, Ok, Err, inl, inr}
use Rattle.std.specs.Prelude.{IfOk, IfSome, IsErrOf, IsTrue}
use Rattle.std.specs.Prelude.{◌==◌}
use Rattle.std.proofs.lemmas.Bool.{true≢false, eq-eqb}
use Rattle.std.proofs.lemmas.Option.{same_Some, none-some}
use Rattle.mds_base.specs.declared.setup.Setup.{Setup}
use Rattle.script.specs.declared.line.Line.{Line}
use Rattle.script.specs.declared.line.Line.TheVariants.{Skipped, Call, Issue, Retry, Deliver, Batch, Take, Settle, Remind, Tick, Fuse, Stop, Restart, Walk, Bulk, Rmdir, Feed, Promote}
use Rattle.script.specs.declared.fault.LineFault.{LineFault}
use Rattle.script.specs.declared.fault.LineFault.TheVariants.{NotALine, OutOfMemory}
use Rattle.script.specs.Answers.{Gives, OnMemory, IsLineOrMemory}
use Rattle.script.specs.Words.{letters, word_at}
use Rattle.script.specs.Grammar.{Part, Keyword, Number, Named, Raw, Rest, AreSaid, line_parts, IsComment, IsLine, keeps}
use Rattle.script.specs.Reading.{line_of}
use Rattle.script.proofs.Splitting.{word-plain}
use Rattle.script.proofs.Sentences.{line_is, line_found}

begins : (a b : ℕ) (x y : List ℕ) → (a == b) ≡ false → a ∷ x ≡ b ∷ y → ⊥
begins a b x y apart is = true≢false (sym (eq-eqb a b (ap (λ l. get_or l 0 0) is)) ∙ apart)

-- the parts begin with this word, where they begin with a word of the grammar
abbrev BeginWith : List ℕ → List Part → Type 0
BeginWith word [] = ⊥
BeginWith word (Keyword text ∷ parts) = word ≡ text
BeginWith word (Number number ∷ parts) = Unit {0}
BeginWith word (Named name ∷ parts) = Unit {0}
BeginWith word (Raw text ∷ parts) = Unit {0}
BeginWith word (Rest text ∷ parts) = Unit {0}

first_said : (bytes word rest : List ℕ) (parts : List Part) → word_at bytes ≡ Some (word, rest) → AreSaid bytes parts → BeginWith word parts
first_said bytes word rest [] is said = none-some (word, rest) (sym said ∙ is)
first_said bytes word rest (Keyword text ∷ parts) is said = (subst (λ (o : Option (List ℕ × List ℕ)). MatchOption o ⊥ (λ piece. (piece.0 ≡ text) × AreSaid piece.1 parts)) is said).0
first_said bytes word rest (Number number ∷ parts) is said = tt
first_said bytes word rest (Named name ∷ parts) is said = tt
first_said bytes word rest (Raw text ∷ parts) is said = tt
first_said bytes word rest (Rest text ∷ parts) is said = tt

-- no line but a comment begins with a `#`
no_hash : (word : List ℕ) (line : Line) → BeginWith (35 ∷ word) (line_parts line) → ⊥
no_hash word Skipped s = s
no_hash word (Call client call) s = begins 35 99 word _ refl s
no_hash word (Issue client call) s = begins 35 105 word _ refl s
no_hash word (Retry client) s = begins 35 114 word _ refl s
no_hash word (Deliver place) s = begins 35 100 word _ refl s
no_hash word (Batch server places) s = begins 35 98 word _ refl s
no_hash word (Take client place) s = begins 35 116 word _ refl s
no_hash word Settle s = begins 35 115 word _ refl s
no_hash word (Remind server) s = begins 35 114 word _ refl s
no_hash word (Tick by) s = begins 35 116 word _ refl s
no_hash word (Fuse server calls) s = begins 35 102 word _ refl s
no_hash word (Stop server) s = begins 35 115 word _ refl s
no_hash word (Restart server) s = begins 35 114 word _ refl s
no_hash word (Walk client path) s = begins 35 119 word _ refl s
no_hash word (Bulk client dir name json) s = begins 35 98 word _ refl s
no_hash word (Rmdir client dir name) s = begins 35 114 word _ refl s
no_hash word (Feed server) s = begins 35 102 word _ refl s
no_hash word (Promote server) s = begins 35 112 word _ refl s

comment_alone : (bytes : List ℕ) (line : Line) → IsComment bytes → AreSaid bytes (line_parts line) → ⊥
comment_alone [] line comment s = comment
comment_alone (byte ∷ bytes) line comment s =
    no_hash (take (letters bytes) bytes) line
    (first_said (35 ∷ bytes) (35 ∷ take (letters bytes) bytes) (drop (letters bytes) bytes) (line_parts line) (word-plain 35 bytes refl) (subst (λ b. AreSaid (b ∷ bytes) (line_parts line)) comment s))

-- bytes say one line
pub one_line : (setup : Setup) (bytes : List ℕ) (a b : Line) → IsLine setup bytes a → IsLine setup bytes b → a ≡ b
one_line setup bytes a b (inl p) (inl q) = p.1 ∙ sym q.1
one_line setup bytes a b (inl p) (inr q) = absurd (comment_alone bytes b p.0 q.0)
one_line setup bytes a b (inr p) (inl q) = absurd (comment_alone bytes a q.0 p.0)
one_line setup bytes a b (inr p) (inr q) = same_Some a b (sym (line_is setup bytes a p.0 p.1) ∙ line_is setup bytes b q.0 q.1)

pub comment_skipped : (setup : Setup) (bytes : List ℕ) (line : Line) → IsComment bytes → IsLine setup bytes line → Skipped ≡ line
comment_skipped setup bytes line comment is = one_line setup bytes Skipped line (inl (comment, refl)) is

-- ---- what a reader of the words answers, where the bytes are no comment

pub read_found : (setup : Setup) (bytes : List ℕ) (r : Result Line LineFault) → Gives (λ line. line) r (line_of setup bytes) → IfOk r (λ line. IsLine setup bytes line)
read_found setup bytes (Ok line) gives = inr (line_found setup bytes line gives)
read_found setup bytes (Err e) gives = tt

pub read_only : (setup : Setup) (bytes : List ℕ) (r : Result Line LineFault) → Gives (λ line. line) r (line_of setup bytes) → (IsComment bytes → ⊥) → (line : Line) → IsLine setup bytes line → IsLineOrMemory r line
read_only setup bytes r gives apart line (inl p) = absurd (apart p.0)
read_only setup bytes (Ok found) gives apart line (inr p) = same_Some found line (sym gives ∙ line_is setup bytes line p.0 p.1)
read_only setup bytes (Err NotALine) gives apart line (inr p) = none-some line (sym gives ∙ line_is setup bytes line p.0 p.1)
read_only setup bytes (Err OutOfMemory) gives apart line (inr p) = tt

pub refused_only : (setup : Setup) (bytes : List ℕ) (r : Result Line LineFault) → Gives (λ line. line) r (line_of setup bytes) → (IsComment bytes → ⊥) → IsErrOf r NotALine → (line : Line) → IsLine setup bytes line → ⊥
refused_only setup bytes r gives apart refused line is = subst (λ (r : Result Line LineFault). IsLineOrMemory r line) refused (read_only setup bytes r gives apart line is)

pub read_plain : (setup : Setup) (bytes : List ℕ) (r : Result Line LineFault) → Gives (λ line. line) r (line_of setup bytes) → OnMemory r (IfSome (line_of setup bytes) (λ line. IsTrue (keeps line))) → (IsComment bytes → ⊥) → (line : Line) → IsLine setup bytes line → keeps line ≡ false → r ≡ Ok line
read_plain setup bytes r gives memory apart line (inl p) plain = absurd (apart p.0)
read_plain setup bytes (Ok found) gives memory apart line (inr p) plain = ap Ok (same_Some found line (sym gives ∙ line_is setup bytes line p.0 p.1))
read_plain setup bytes (Err NotALine) gives memory apart line (inr p) plain = absurd (none-some line (sym gives ∙ line_is setup bytes line p.0 p.1))
read_plain setup bytes (Err OutOfMemory) gives memory apart line (inr p) plain =
    absurd (true≢false (sym (subst (λ o. IfSome o (λ line. IsTrue (keeps line))) (line_is setup bytes line p.0 p.1) memory) ∙ plain))
