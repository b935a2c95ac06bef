use Rattle.std.proofs.Common.{rules, ◌≡◌, ◌++◌, List, ℕ, take, drop, ◌+◌, Some, ap, subst}
use Rattle.mds_out.specs.Stream.{Gives}
use Rattle.mds_out.specs.BytesIn.{Reading}
use Rattle.mds_out.proofs.Streams.{copied}
use Rattle.mds_out.proofs.bytes_in.BytesInSource.read.Goals as goal

pub returns-clause-given : goal.returns-clause-given
returns-clause-given c =
    let gives : c.copy_from_slice.new.self ≡ take c.min-count.result (drop c.self.inside.at c.self.inside.bytes.items) = search rules in
    let given = copied c.self.inside.bytes.items c.args.into.now c.copy_from_slice.new.self c.self.inside.at c.min-count.result c.self.inside.step gives (search rules) c.self.invariant.1 c.requires in
    let P : List ℕ → Type 0 = λ l. Gives (Some l) (Some (drop (c.self.inside.at + c.min-count.result) c.self.inside.bytes.items)) (c.copy_from_slice.new.self ++ drop c.min-count.result c.args.into.now) c.min-count.result in
    subst P (ap (λ (r : Reading). r.left) c.self.view_is) given
