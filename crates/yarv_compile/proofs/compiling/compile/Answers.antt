use Rattle.std.proofs.Common.{◌≡◌, refl, sym, subst, ◌∙◌}
use Rattle.std.proofs.Math.Logic.{∥∥₁_elim, ∥∥₁_map}
use Rattle.ruby_tree.specs.Programs.{IsProgram}
use Rattle.ruby_tree.specs.Read.{tree_of}
use Rattle.iseq_types.specs.declared.sequences.Unit.{Unit as CompiledUnit}
use Rattle.compile_table.specs.Sequences.{unit_of, in_file}
use Rattle.yarv_compile.specs.declared.places.SourceFile.{SourceFile}
use Rattle.iseq_dump.specs.Dump.{CanBeDumped, HasSoundBodies}
use Rattle.compile_laws.proofs.SoundPrograms.{text_bodies, text_dumped}
use Rattle.yarv_compile.proofs.Dumpable.{dumpable_prop}
use Rattle.yarv_compile.proofs.UnitSet.{unit_set}
use Rattle.yarv_compile.proofs.Programs.{unit_made}
use Rattle.yarv_compile.proofs.compiling.compile.Goals as goal

unit_is : (c : goal.After-drop-numbers-inside-2) → IsProgram c.args.program.now.symbols c.args.program.now.root → c.in_ok-unit.unit ≡ unit_of c.args.path.now (tree_of c.args.program.now.symbols c.args.program.now.root)
unit_is c p =
    let numbers = c.in_ok-numbers.ensures.numbers c.args.program.now.symbols in
    let t = tree_of c.args.program.now.symbols c.args.program.now.root in
    let f : SourceFile = record { alloc = c.args.alloc; symbols = record { ref_ptr = c.args.path.ref_ptr; now = c.args.program.now.symbols }; path = c.args.path; numbers = record { ref_ptr = c.args.path.ref_ptr; now = c.in_ok-numbers.numbers } } in
    c.in_ok-unit.ensures
    ∙ unit_made f p.source t p.read numbers c.in_ok-all.all.own c.in_ok-all.all.done.items c.in_ok-all.ensures.own
    (c.in_ok-all.ensures.done (in_file c.args.path.now t) (record { sight = refl; path = refl; parent = refl; numbers = λ q. sym (numbers q) }) refl) c.in_ok-all.ensures.order

pub returns-clause-unit : goal.returns-clause-unit
returns-clause-unit c = ∥∥₁_elim c.args.program.now.whole (unit_set c.in_ok-unit.unit (unit_of c.args.path.now (tree_of c.args.program.now.symbols c.args.program.now.root))) (unit_is c)

pub returns-clause-sound : goal.returns-clause-sound
returns-clause-sound c = ∥∥₁_map c.args.program.now.whole (λ p. subst HasSoundBodies (sym (unit_is c p)) (text_bodies c.args.path.now p.source (tree_of c.args.program.now.symbols c.args.program.now.root) p.read))

pub returns-clause-dumpable : goal.returns-clause-dumpable
returns-clause-dumpable c = ∥∥₁_elim c.args.program.now.whole (dumpable_prop c.in_ok-unit.unit) (λ p. subst CanBeDumped (sym (unit_is c p)) (text_dumped c.args.path.now p.source (tree_of c.args.program.now.symbols c.args.program.now.root) p.read))
