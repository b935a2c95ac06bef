-- What a sink over bytes in memory is: the bytes it took, the most that one call takes, its failing calls, how often
-- memory was refused to it, and whether all it took was passed on.
use Rattle.std.specs.Prelude.{ℕ, ◌+◌, ◌-◌, ◌^◌, min, List, ◌++◌, Bool, true, false, if◌then◌else◌}
use Rattle.mds_out.specs.Calls.{failed_calls, is_failing, next_number}

pub record Writing : Type 0 where
  pub taken : List ℕ
  pub step : ℕ
  pub fails : List ℕ
  pub made : ℕ
  pub refused : ℕ
  pub passed : Bool

-- the calls that failed by number, and the writes that found no memory
abbrev pub writing_faults : Writing → ℕ
writing_faults writing = failed_calls writing.fails writing.made + writing.refused

-- the next call fails by its number
abbrev pub fails_next : Writing → Bool
fails_next writing = is_failing writing.fails writing.made

-- after a call that took these bytes
abbrev pub after_write : Writing → List ℕ → Writing
after_write writing bytes =
    record writing { taken = writing.taken ++ bytes; made = next_number writing.made; passed = false }

-- after a write that failed, by its number or for want of memory
abbrev pub after_refusal : Writing → Writing
after_refusal writing = record writing {
  made = next_number writing.made;
  refused =
      (if fails_next writing then writing.refused else min (writing.refused + 1) (2 ^ 64 - 1));
}

-- after a call that passed on what was taken
abbrev pub after_finish : Writing → Writing
after_finish writing = record writing { made = next_number writing.made; passed = true }
