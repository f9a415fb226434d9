use Rattle.std.proofs.Common.{List, subst, sym, arith, length, ap}
use Rattle.std.proofs.lemmas.List.{length_push}
use Rattle.iseq_types.specs.declared.environments.Home.{Home}
use Rattle.iseq_types.specs.Homes.{AreFirstHomes, IsHome}
use Rattle.iseq_types.proofs.Homing.{homes_more}
use Rattle.iseq_types.proofs.environments.Environments.new.Goals as goal

pub next_home-next-requires-clause-homes : goal.next_home-next-requires-clause-homes
next_home-next-requires-clause-homes c =
    subst (λ (homes : List Home). AreFirstHomes c.args.rows.now homes) (sym c.as_slice.ensures) c.loop.invariant.each

pub loop-preserved : goal.loop-preserved
loop-preserved c =
    let rows = c.args.rows.now in
    let next = c.next_home-next.result in
    let pushed = c.in_ok-push.ensures.ok in
    record {
      long = omega (arith, ap length pushed, length_push c.loop.homes next, c.loop.invariant.long);
      each = subst (λ (homes : List Home). AreFirstHomes rows homes) (sym pushed) (homes_more rows c.loop.homes next c.loop.invariant.each (subst (λ (homes : List Home). IsHome rows (length homes) next) c.as_slice.ensures c.next_home-next.ensures));
    }
