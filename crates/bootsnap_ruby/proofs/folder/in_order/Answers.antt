use Rattle.std.proofs.Common.{◌≡◌, ◌∙◌, ap, sym, true}
use Rattle.std.proofs.lemmas.List.Elements.{All-push}
use Rattle.bs_outside.specs.Paths.{is_segment}
use Rattle.bootsnap_ruby.proofs.folder.in_order.Goals as goal

pub loop-name-preserved-in-Continue-branch-2 : goal.loop-name-preserved-in-Continue-branch-2
loop-name-preserved-in-Continue-branch-2 c =
    let segment : is_segment c.in-Some.name ≡ true = ap is_segment (sym c.as_slice.ensures) ∙ sym c.in_ok-is_segment.ensures ∙ c.if-branch.true in
    rw c.in_ok-push.ensures.ok (All-push (λ listed. is_segment listed.name ≡ true) c.loop-name.names _ c.loop-name.invariant segment)
