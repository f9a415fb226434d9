use Rattle.std.proofs.Common.{◌≡◌, List, length, Bool, IsTrue, ap, sym, ◌∙◌}
use Rattle.std.specs.Prelude.{slice_get, ◌↔◌}
use Rattle.std.proofs.lemmas.Result.{IfOk-weaker}
use Rattle.iseq_types.specs.declared.sequences.Line.{Line}
use Rattle.iseq_types.specs.Spans.{HoldsOver}
use Rattle.iseq_types.specs.Depths.{IsTable, KeepsDepths}
use Rattle.std.proofs.Common.{All}
use Rattle.iseq_types.proofs.Keeping.{table_takes, spans_within, keeps_by_spans, same_rooms}
use Rattle.iseq_types.proofs.depths.depths_are_kept.Goals as goal

pub rooms_of-requires-clause-enough : goal.rooms_of-requires-clause-enough
rooms_of-requires-clause-enough c =
    let seq = c.args.seq.now in
    let t : IsTable seq c.args.kind c.in-Some.found = rw c.in-Some.is at c.in_ok-found.ensures.found in
    λ place depth line at is. table_takes seq c.args.kind c.in-Some.found t place depth line (ap (λ x. slice_get x place) (sym c.as_slice-2.ensures) ∙ at) (ap (λ (x : List Line). slice_get x place) (sym c.as_slice.ensures) ∙ is)

pub spans_hold-requires : goal.spans_hold-requires
spans_hold-requires c =
    let seq = c.args.seq.now in
    let long : length c.in_ok-rooms.rooms.items ≡ length seq.code = c.in_ok-rooms.ensures.long ∙ ap (λ (x : List Line). length x) c.as_slice.ensures in
    spans_within seq c.in_ok-rooms.rooms.items c.in_ok-spans.spans.items c.as_slice-3.result.now c.as_slice-3.ensures c.in_ok-spans.ensures.spans long c.requires.inside c.requires.ordered

pub returns : goal.returns
returns c =
    let seq = c.args.seq.now in
    let kind = c.args.kind in
    let found = c.in-Some.found in
    let rooms = c.in_ok-rooms.rooms.items in
    let spans = c.in_ok-spans.spans.items in
    let t : IsTable seq kind found = rw c.in-Some.is at c.in_ok-found.ensures.found in
    let r = same_rooms seq.code c.as_slice.result.now found c.as_slice-2.result.now rooms c.as_slice.ensures c.as_slice-2.ensures c.in_ok-rooms.ensures in
    IfOk-weaker c.spans_hold.result (λ (yes : Bool). IsTrue yes ↔ All (HoldsOver rooms) spans) (λ (yes : Bool). IsTrue yes ↔ KeepsDepths seq kind) (λ answer h. keeps_by_spans seq kind found rooms spans c.as_slice-3.result.now t r c.as_slice-3.ensures c.in_ok-spans.ensures.spans c.in_ok-spans.ensures.small c.requires.some c.requires.inside answer h) c.spans_hold.ensures
