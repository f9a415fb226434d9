use Rattle.std.proofs.Common.{◌≡◌, List, ℕ, length, subst, ◌∙◌}
use Rattle.std.specs.Prelude.{IfOk, IfSome, IfNone}
use Rattle.iseq_types.specs.declared.sequences.Sequence.{Sequence}
use Rattle.iseq_dump.specs.Dump.{IsBody, body_bytes}
use Rattle.iseq_dump.proofs.PublicAnswers.{body_found, body_none}
use Rattle.std.proofs.lemmas.List.{drop-take}
use Rattle.iseq_dump.proofs.loading.read_body.Goals as goal

pub returns-clause-found : goal.returns-clause-found
returns-clause-found g c =
    let all = c.new-cursor.ensures ∙ drop-take c.args.place c.args.size c.args.image.now in
    subst (λ (bytes : List ℕ). IfOk c.answer.result (λ r. IfSome r (λ body. IsBody body × (bytes ≡ body_bytes body)))) all (body_found c.read_whole_body.result c.answer.result c.new-cursor.result c.answer.ensures c.read_whole_body.ensures.value)

pub returns-clause-none : goal.returns-clause-none
returns-clause-none g c =
    let all = c.new-cursor.ensures ∙ drop-take c.args.place c.args.size c.args.image.now in
    subst (λ (bytes : List ℕ). IfOk c.answer.result (λ r. IfNone r ((body : Sequence) → IsBody body → length (body_bytes body) ≡ c.args.size → bytes ≡ body_bytes body → ⊥))) all (body_none c.read_whole_body.result c.answer.result c.new-cursor.result c.args.size c.answer.ensures c.read_whole_body.ensures.value)
