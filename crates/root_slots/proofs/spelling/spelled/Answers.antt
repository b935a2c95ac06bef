use Rattle.std.proofs.Common.{◌≡◌, ◌∙◌, ◌<◌, ◌^◌, ◌++◌, ℕ, List, ap, subst, sym, length, slice_index, length-append, arith}
use Rattle.md5.specs.Md5.{md5}
use Rattle.root_slots.specs.Slot.{summed, spelling, open_content}
use Rattle.root_slots.proofs.Spelled.{Fits, few_tables, length-summed, read_back}
use Rattle.root_slots.proofs.spelling.spelled.Goals as goal

before_is : (c : goal.In_ok-push_sum) → c.in_ok-bytes.bytes.items ≡ summed c.args.root.now
before_is c =
    let root = c.args.root.now in
    c.in_ok-bytes.ensures.bytes ∙ ap (λ (tables : List ℕ). summed (record { number = root.number; state = root.state; log_file = root.log_file; tables = tables })) c.files.ensures

whole_is : (c : goal.In_ok-push_sum) → c.push_sum.new.bytes.items ≡ spelling c.args.root.now
whole_is c = c.in_ok-push_sum.ensures.sum ∙ ap (λ (l : List ℕ). l ++ md5 l) (before_is c)

fits : (c : goal.In_ok-push_sum) → Fits c.args.root.now
fits c = record {
  number = c.in_ok-bytes.ensures.fits.0;
  state = c.in_ok-bytes.ensures.fits.1;
  log_file = c.in_ok-bytes.ensures.fits.2;
  tables = λ k. (let P : List ℕ → Type 0 = λ l. slice_index l k < 2 ^ 32 in subst P c.files.ensures (c.in_ok-bytes.ensures.tables_fit k));
  sum = sym (ap (λ (l : List ℕ). length (md5 l)) (before_is c)) ∙ c.in_ok-push_sum.ensures.size;
  is = c.requires;
}

pub returns-clause-short : goal.returns-clause-short
returns-clause-short c =
    let root = c.args.root.now in
    omega (arith, ap length (whole_is c), length-append (summed root) (md5 (summed root)), length-summed root, few_tables root c.requires, (fits c).sum)

pub returns-clause-read : goal.returns-clause-read
returns-clause-read c = λ tail. ap (λ (l : List ℕ). open_content (l ++ tail)) (whole_is c) ∙ read_back c.args.root.now (fits c) tail
