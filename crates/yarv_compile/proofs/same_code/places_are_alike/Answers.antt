use Rattle.yarv_compile.proofs.Alike.{looped_alike, in_body_alike, in_block_alike, in_rescue_alike, in_ensure_alike, elsewhere_alike, orders_alike}
use Rattle.yarv_compile.proofs.same_code.places_are_alike.Goals as goal

pub returns : goal.returns
returns c = record {
  sequences = elsewhere_alike;
  orders = orders_alike;
  loops = looped_alike;
  bodies = in_body_alike;
  blocks = in_block_alike;
  rescues = in_rescue_alike;
  ends = in_ensure_alike;
}
