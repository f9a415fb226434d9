-- The sequences that stand in a file's own are those of the file.
use Rattle.std.proofs.Common.{◌≡◌, false, sym, ap, ◌∙◌, List, [], map}
use Rattle.std.specs.Prelude.{IsPermutation}
use Rattle.std.proofs.lemmas.List.Sorted.{IsPermutation-map, IsPermutation-sym}
use Rattle.ruby_tree.specs.Tree.{Tree}
use Rattle.compile_table.specs.Shapes.{Where}
use Rattle.compile_table.specs.Sequences.{sequences}
use Rattle.code_emitter.specs.Children.{Child, direct}
use Rattle.yarv_compile.specs.declared.units.Finished.{Finished}
use Rattle.yarv_compile.specs.Children.{all_under}
use Rattle.yarv_compile.specs.Finishing.{finished_of}
use Rattle.yarv_compile.proofs.DirectChildren.{children_are_sequences}
use Rattle.yarv_compile.proofs.Reordered.{◌▸◌, of_same}

-- they were done, and then put in order
pub all_done : (l : Where) (t : Tree) (children : List Child) (done sorted : List Finished) → l.loop ≡ false → children ≡ direct false t → IsPermutation (map finished_of (all_under l children)) done → IsPermutation done sorted → IsPermutation (map finished_of (sequences l t)) sorted
all_done l t children done sorted outside are s order =
    let same : direct l.loop t ≡ children = ap (λ b. direct b t) outside ∙ sym are in
    IsPermutation-sym _ _ (IsPermutation-map finished_of (all_under l (direct l.loop t)) (sequences l t) (children_are_sequences l t))
    ▸ (of_same (ap (λ cs. map finished_of (all_under l cs)) same) ▸ (s ▸ order))
