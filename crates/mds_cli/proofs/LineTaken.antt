-- Parts of lines out of a chunk, of which the bytes from `from` to `to` are held.
use Rattle.std.proofs.Common.{◌≡◌, ◌∙◌, sym, ap, subst, refl, ℕ, ◌+◌, ◌-◌, ◌<◌, ◌≤◌, ◌^◌, List, [], ◌∷◌, ◌++◌, length, take, drop, arith, Option, Some, None, length-append, length-drop, append_assoc}
use Rattle.std.specs.Io.KnownBytes.{Consumes}
use Rattle.std.proofs.lemmas.List.{take-append-drop, drop-take, drop-drop, length-take, take_all, drop_all}
use Rattle.std.proofs.Math.Seq.{drop-append-add}
use Rattle.mds_out.specs.Known.{OnTold}
use Rattle.mds_cli.specs.Lines.{IsPart}
use Rattle.mds_cli.specs.Streams.{EndsLine, GoesOn, PassesLimit, Ends}

held_is : (chunk : List ℕ) (from to : ℕ) → from ≤ to → take (to - from) (drop from chunk) ≡ drop from (take to chunk)
held_is chunk from to le = sym (drop-take from (to - from) chunk) ∙ ap (λ n. drop from (take n chunk)) (let e : from + (to - from) ≡ to = omega arith in e)

behind : (part after : List ℕ) → drop (length part + 1) (part ++ 10 ∷ after) ≡ after
behind part after = drop-append-add part (10 ∷ after) 1

-- the first n held bytes hold a line's end
module _ (chunk : List ℕ) (from to n : ℕ) (part after line : List ℕ) (le : from ≤ to) (fits : to ≤ length chunk) (count : n ≤ to - from) (splits : take n (take (to - from) (drop from chunk)) ≡ part ++ 10 ∷ after) where
  pub part_short : length part + 1 ≤ n
  part_short = omega (arith, ap length splits, length-append part (10 ∷ after), length-take n (take (to - from) (drop from chunk)))

  pub part_within : from + (length part + 1) ≤ to
  part_within = omega (arith, part_short)

  whole : drop from (take to chunk) ≡ part ++ 10 ∷ (after ++ drop n (drop from (take to chunk)))
  whole = sym (take-append-drop n (drop from (take to chunk))) ∙ ap (λ l. l ++ drop n (drop from (take to chunk))) (ap (take n) (sym (held_is chunk from to le)) ∙ splits) ∙ append_assoc part (10 ∷ after) (drop n (drop from (take to chunk)))

  left_is : drop (from + (length part + 1)) (take to chunk) ≡ after ++ drop n (drop from (take to chunk))
  left_is = sym (drop-drop (length part + 1) from (take to chunk)) ∙ ap (drop (length part + 1)) whole ∙ behind part (after ++ drop n (drop from (take to chunk)))

  pub ends_line : (held longer : List ℕ) → drop from (take to chunk) ≡ held → IsPart part → n + length line ≤ 2 ^ 20 + 2 → longer ≡ line ++ part → EndsLine held (drop (from + (length part + 1)) (take to chunk)) line longer
  ends_line held longer is is_part room grows = record {
    part = part;
    is_part = is_part;
    splits = sym is ∙ whole ∙ ap (λ l. part ++ 10 ∷ l) (sym left_is);
    grows = grows;
    short = omega (arith, ap length grows, length-append line part, part_short, room);
  }

-- the first n held bytes hold no line's end
module _ (chunk : List ℕ) (from to n : ℕ) (held line : List ℕ) (le : from ≤ to) (fits : to ≤ length chunk) (is : drop from (take to chunk) ≡ held) (is_part : IsPart (take n (take (to - from) (drop from chunk)))) where
  seen : take n (take (to - from) (drop from chunk)) ≡ take n held
  seen = ap (take n) (held_is chunk from to le ∙ is)

  pub passes_limit : 2 ^ 20 + 1 < length line + n → n ≤ to - from → PassesLimit held held line
  passes_limit long count = record {
    same = refl;
    part = take n held;
    rest = drop n held;
    is_part = subst IsPart seen is_part;
    splits = sym (take-append-drop n held);
    long = omega (arith, long, length-take n held, ap length is, length-drop from (take to chunk), length-take to chunk);
  }

  pub goes_on : (longer : List ℕ) → to - from ≤ n → length line + (to - from) ≤ 2 ^ 20 + 1 → longer ≡ line ++ take n (take (to - from) (drop from chunk)) → GoesOn held (drop to (take to chunk)) line longer
  goes_on longer count room grows =
      let all : take n held ≡ held = take_all n held (omega (arith, count, ap length is, length-drop from (take to chunk), length-take to chunk)) in
      record {
        is_part = subst IsPart (seen ∙ all) is_part;
        none = drop_all to (take to chunk) (omega (arith, length-take to chunk));
        grows = grows ∙ ap (λ l. line ++ l) (seen ∙ all);
        short = omega (arith, room, ap length (grows ∙ ap (λ l. line ++ l) (seen ∙ all)), length-append line held, ap length is, length-drop from (take to chunk), length-take to chunk);
      }

-- a read that gives no byte meets the end
pub at_end : (before now : Option (List ℕ)) (into : List ℕ) (k : ℕ) → k ≡ 0 → Consumes before now (take k into) → OnTold before (λ bytes. bytes ≡ []) → Ends before now
at_end None now into k none consumed end = tt
at_end (Some before) None into k none consumed end = absurd consumed
at_end (Some before) (Some now) into k none consumed end = sym (consumed ∙ ap (λ n. take n into ++ now) none) ∙ end
