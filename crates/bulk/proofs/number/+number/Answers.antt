use Rattle.std.proofs.Common.{◌≡◌, ◌∙◌, ap, subst, length, string_bytes, List, rules}
use Rattle.std.proofs.lemmas.Map.Iter.{rest_all}
use Rattle.std.specs.FinMap as map
use Rattle.std.specs.Map.Iter.{deref_pair}
use Rattle.std.specs.Prelude.{slice_set}
use Rattle.serde_json.specs.View.{view, members_view}
use Rattle.serde_json.proofs.Views.{Entry}
use Rattle.bulk.specs.Trees.{place}
use Rattle.bulk.proofs.Numbering.{Numbered, numbered, all_numbered}
use Rattle.bulk.proofs.number.+number.Goals as goal

pub number_members-loop-key-preserved : goal.number_members-loop-key-preserved
number_members-loop-key-preserved t c =
    let l = c.loop-key in
    let old = c.args.objects.now.items in
    let all = members_view c.args.members.now.entries in
    let left : List Entry = c.next.new.self in
    let e : Entry = (c.in-Some.key.now, c.in-Some.member.now) in
    let so_far = subst (λ (es : List Entry). Numbered old all (members_view es) l.object l.objects.items) c.in-Some.ensures.steps l.invariant in
    let named : c.in_ok-name.name ≡ string_bytes e.0 = c.in_ok-name.ensures.value ∙ c.as_bytes.ensures.value in
    let put = c.in_ok-add.ensures ∙ ap (λ name. map.insert l.object (place name) c.in_ok-kind.kind) named in
    numbered old all (string_bytes e.0) (view e.1) (members_view left) l.object c.add.new.self c.in_ok-kind.kind l.objects.items c.number.new.objects.items
    so_far c.in_ok-kind.ensures.kind c.in_ok-kind.ensures.added put

pub number_members-returns-clause-added : goal.number_members-returns-clause-added
number_members-returns-clause-added t c =
    let l = c.loop-key in
    let old = c.args.objects.now.items in
    let all = members_view c.args.members.now.entries in
    let done = rest_all deref_pair l.key-iterator _ c.next.result c.in-None.is c.next.ensures.steps in
    let so_far = subst (λ (es : List Entry). Numbered old all (members_view es) l.object l.objects.items) done l.invariant in
    let index : c.len-index.result ≡ length old = search rules in
    ap (λ i. slice_set l.objects.items i l.object) index ∙ all_numbered old all l.object l.objects.items so_far
