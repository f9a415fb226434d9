use Rattle.std.specs.Prelude.{IfSome}
use Rattle.std.proofs.Common.{◌≡◌, sym, subst, true}
use Rattle.std.specs.List.{All}
use Rattle.std.proofs.lemmas.List.Elements.{All-push}
use Rattle.bs_outside.specs.Paths.{is_segment}
use Rattle.bs_outside.specs.declared.trees.Listed.{Listed}
use Rattle.mem_outside.proofs.files.put_below.Goals as goal

pub returns-in_ok-push-clause-segments : goal.returns-in_ok-push-clause-segments
returns-in_ok-push-clause-segments c = λ h. subst (All (λ (l : Listed). is_segment l.name ≡ true)) (sym c.in_ok-push.ensures.ok) (All-push (λ (l : Listed). is_segment l.name ≡ true) _ _ h (subst (λ o. IfSome o (λ n. is_segment n ≡ true)) c.in-Some.is c.in_ok-name.ensures.segment))
