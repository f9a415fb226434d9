use Rattle.ruby_meaning.proofs.StoredStores.{code_on, closure_on, made_on}
use Rattle.ruby_meaning.proofs.MadeFrames.{code_stands, code_housed, block_stands, block_made}
use Rattle.ruby_meaning.proofs.PlacedFrames.{method_in_place, block_in_place, class_in_place, file_in_place, found_stands, closure_stands}
use Rattle.ruby_meaning.proofs.laws.made_frames_are_in_place.Goals as goal

pub returns : goal.returns
returns c = record {
  method = method_in_place;
  block = block_in_place;
  class = class_in_place;
  file = file_in_place;
  found = found_stands;
  closure = closure_stands;
  code_made = λ told c frame w t fits placed housed found. (code_stands frame t w.objects placed fits.classes, code_housed told frame t housed found);
  block_made = λ told c s frame w t fits sees placed housed found. (block_stands c frame t w.objects placed fits, block_made told s frame t w housed found sees);
  code_stays = λ code w z l h. code_on w.objects z.objects l code h;
  block_stays = λ told c s d w z l stay h k. (closure_on c w.objects z.objects l d h, made_on told s w.environments z.environments stay d k);
}
