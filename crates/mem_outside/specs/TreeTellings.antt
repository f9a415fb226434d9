use Rattle.std.specs.Prelude.{ℕ, List, refl}
use Rattle.std.specs.Coded.{Coded, code_by, coded×, coded_ℕ, coded_list}
use Rattle.std.specs.FinMap as map
use Rattle.bs_outside.specs.SourceTree.{SourceTree}
use Rattle.bs_outside.specs.contracts.trees.Item as item
use Rattle.mem_shelf.specs.Schedule.{Schedule}

-- What a tree in memory is seen as: what stands in it, which of its calls fail, and the paths of the calls that were answered.
pub record TreeTelling : Type 0 where
  pub files : SourceTree
  pub script : Schedule
  pub stats : List (List ℕ)
  pub listings : List (List ℕ)
  pub reads : List (List ℕ)

abbrev pub paths_code : Coded (List (List ℕ))
paths_code = coded_list (coded_list coded_ℕ)

abbrev pub tree_code : Coded SourceTree
tree_code = map.code (coded_list coded_ℕ) item.the_row.coded

abbrev pub schedule_code : Coded Schedule
schedule_code = code_by (List ℕ × ℕ) (coded× (coded_list coded_ℕ) coded_ℕ) (λ s. (s.fail, s.calls)) (λ p. record { fail = p.0; calls = p.1 }) (λ _. refl)

-- such a telling is stored as the tuple of its fields
abbrev pub telling_code : Coded TreeTelling
telling_code =
    code_by (SourceTree × (Schedule × (List (List ℕ) × (List (List ℕ) × List (List ℕ))))) (coded× tree_code (coded× schedule_code (coded× paths_code (coded× paths_code paths_code))))
    (λ t. (t.files, (t.script, (t.stats, (t.listings, t.reads)))))
    (λ p. record { files = p.0; script = p.1.0; stats = p.1.1.0; listings = p.1.1.1.0; reads = p.1.1.1.1 }) (λ _. refl)
