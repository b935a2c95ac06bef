use Rattle.std.proofs.Common.{◌≡◌, ◌∷◌, [], ◌++◌, length}
use Rattle.message_store.specs.Calls.{call_of}
use Rattle.message_store.proofs.Slots.{request_put}
use Rattle.message_store.proofs.sides.Sides.put_request.Goals as goal

pub returns : goal.returns
returns c =
    let put : (c.in-Some.row ≡ length c.self.inside.calls) × (c.push.new.self ≡ c.self.inside.calls ++ call_of c.args.ask.now ∷ []) = rw c.in-Some.is at c.in_ok-row.ensures in
    request_put _ _ c.self.view_is _ _ _ c.args.ask.now put.0 put.1
