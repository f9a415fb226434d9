use Rattle.std.proofs.Common.{◌∙◌, ◌≡◌, sym, map, ap, []}
use Rattle.std.specs.List.{All}
use Rattle.bs_outside.specs.Paths.{path_of}
use Rattle.bs_outside.proofs.Segments.{IsPlain, plain_further, plain_at_first, normal_path}
use Rattle.bs_outside.proofs.paths.normal.Goals as goal
use Rattle.bs_outside.proofs.paths.normal.Goals.{then-not-begins_with_slash+else-not-is_normal_path+in_ok-walk, else-not-begins_with_slash}

pub returns-then-may_be_path-clause-normal : goal.returns-then-may_be_path-clause-normal
returns-then-may_be_path-clause-normal c =
    let none : map (λ s. s.now) c.new-at.result.items ≡ [] = ap (map (λ s. s.now)) c.new-at.ensures.items in
    let plain : All IsPlain (map (λ s. s.now) c.if-not-begins_with_slash.at.items) = elim c.if-not-begins_with_slash.branch [
      | then-not-begins_with_slash+else-not-is_normal_path+in_ok-walk w ↦ rw w.at-is (plain_further _ _ w.as_slice-then-not-begins_with_slash.result.now w.in_ok-walk.ensures (plain_at_first _ none))
      | else-not-begins_with_slash w ↦ rw w.at-is (plain_at_first _ none)
    ] in
    let further : All IsPlain (map (λ s. s.now) c.walk-2.new.at.items) = plain_further _ _ c.args.text.now c.in_ok-walk-2.ensures plain in
    normal_path c.from_vec.result (map (λ s. s.now) c.walk-2.new.at.items) further
    (c.from_vec.ensures ∙ c.in_ok-path.ensures ∙ ap (λ segments. path_of (map (λ s. s.now) segments)) c.deref.ensures.value)
    (rw (c.from_vec.ensures, ← c.deref-2.ensures.value) (sym c.may_be_path.ensures ∙ c.if-may_be_path.true))
