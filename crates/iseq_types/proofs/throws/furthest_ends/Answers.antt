use Rattle.std.proofs.Common.{◌≡◌, ℕ, ◌+◌, List, Vec, Global, get_or, take, max, ap, sym, ◌∙◌, subst, refl, arith}
use Rattle.std.proofs.lemmas.List.{get_or_read}
use Rattle.iseq_types.specs.declared.sequences.CatchRow.{CatchRow}
use Rattle.iseq_types.specs.declared.sequences.CatchKind.TheVariants.{Rescue}
use Rattle.iseq_types.specs.Furthest.{AreFurthest}
use Rattle.iseq_types.proofs.Ends.{AreFurthest-row, AreFurthest-other}
use Rattle.iseq_types.proofs.throws.furthest_ends.Goals as goal
use Rattle.iseq_types.proofs.throws.furthest_ends.Goals.{then-is_ensure, else-is_ensure}

pub loop-row-preserved : goal.loop-row-preserved
loop-row-preserved c =
    let d : CatchRow = record { kind = Rescue; from = 0; to = 0; cont = 0; sp = 0; seq = 0 } in
    let rows = c.args.rows.now in
    let i = c.loop-row.row-index in
    let row = get_or rows i d in
    let Goal : List ℕ → Type 0 = λ ends. AreFurthest (take (i + 1) rows) c.args.places ends in
    elim c.if-is_ensure.branch [
      | then-is_ensure w ↦
          let within = c.requires i d c.loop-row-test.true in
          let read = get_or_read c.loop-row.ends.items row.from w.index.result.now (omega (arith, within, c.loop-row.invariant.long)) w.index.ensures 0 in
          let far : w.max.result ≡ max (get_or c.loop-row.ends.items row.from 0) row.to = w.max.ensures ∙ ap (λ n. max n row.to) read in
          subst Goal (sym (ap (λ (v : Vec ℕ Global). v.items) w.ends-is)) (AreFurthest-row rows i c.args.places c.loop-row.ends.items d w.max.result c.loop-row-test.true (w.if-is_ensure.ensures.0 refl) within far c.loop-row.invariant)
      | else-is_ensure w ↦
          subst Goal (sym (ap (λ (v : Vec ℕ Global). v.items) w.ends-is)) (AreFurthest-other rows i c.args.places c.loop-row.ends.items d c.loop-row-test.true (λ k. absurd (let f = w.if-is_ensure.ensures.1 k in cc f)) c.loop-row.invariant)
    ]
