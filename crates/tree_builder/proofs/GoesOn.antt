-- What a part is in a table, it is in each table that goes on from it.
use Rattle.std.proofs.Common.{◌<◌, [], List, Option, length, ap}
use Rattle.std.specs.Prelude.{unwrap_or}
use Rattle.std.proofs.lemmas.Option.{slice_get_within}
use Rattle.ruby_tree.specs.declared.names.Name.{Name}
use Rattle.ruby_tree.specs.declared.node.Target.{Target}
use Rattle.tree_builder.specs.declared.Subtree.{Subtree}
use Rattle.tree_builder.specs.declared.lists.Subtrees.{Subtrees}
use Rattle.tree_builder.specs.declared.lists.ElseSubtree.{ElseSubtree}
use Rattle.tree_builder.specs.declared.lists.PairSubtrees.{PairSubtrees}
use Rattle.tree_builder.specs.declared.lists.PieceSubtrees.{PieceSubtrees}
use Rattle.tree_builder.specs.declared.lists.WhenSubtrees.{WhenSubtrees}
use Rattle.tree_builder.specs.declared.lists.RescueSubtrees.{RescueSubtrees}
use Rattle.tree_builder.specs.declared.lists.ParamSubtrees.{ParamSubtrees}
use Rattle.ruby_tree.specs.Names.{Bytes, Texts, Extends, Interns}
use Rattle.ruby_tree.specs.Tree.{Goal, Tree, Trees, Other, Pairs, Pieces, Whens, Rescues, Params}
use Rattle.tree_builder.specs.Subtrees.{IsNamed, AreNamed, IsOtherName, IsTarget, AreTargets, Holds, HoldsAll, HoldsOther, HoldsPairs, HoldsPieces, HoldsWhens, HoldsRescues, HoldsParams}

pub extends_same : (T : Texts) → Extends T T
extends_same T number text is = is

pub extends_then : (T U V : Texts) → Extends T U → Extends U V → Extends T V
extends_then T U V first second number text is = second number text (first number text is)

module _ (T U : Texts) (on : Extends T U) where
  pub named_later : (n : Name) (f : Bytes) → IsNamed T n f → IsNamed U n f
  named_later n f h = record { within = λ V further. h.within V (extends_then T U V on further); text = λ V further. h.text V (extends_then T U V on further) }

  pub names_later : (ns : List Name) (fs : List Bytes) → AreNamed T ns fs → AreNamed U ns fs
  names_later ns fs h = record { within = λ V further. h.within V (extends_then T U V on further); texts = λ V further. h.texts V (extends_then T U V on further) }

  pub other_name_later : (n : Option Name) (x : Option Bytes) → IsOtherName T n x → IsOtherName U n x
  other_name_later n x h = record { within = λ V further. h.within V (extends_then T U V on further); text = λ V further. h.text V (extends_then T U V on further) }

  pub target_later : (t : Target) (g : Goal) → IsTarget T t g → IsTarget U t g
  target_later t g h = record { within = λ V further. h.within V (extends_then T U V on further); goal = λ V further. h.goal V (extends_then T U V on further) }

  pub targets_later : (ts : List Target) (gs : List Goal) → AreTargets T ts gs → AreTargets U ts gs
  targets_later ts gs h = record { within = λ V further. h.within V (extends_then T U V on further); goals = λ V further. h.goals V (extends_then T U V on further) }

  pub later : (s : Subtree) (t : Tree) → Holds T s t → Holds U s t
  later s t h = record { shows = h.shows; reads = λ small V further. h.reads small V (extends_then T U V on further) }

  pub all_later : (s : Subtrees) (ts : Trees) → HoldsAll T s ts → HoldsAll U s ts
  all_later s ts h = record { counts = h.counts; shows = h.shows; reads = λ small V further. h.reads small V (extends_then T U V on further) }

  pub other_later : (s : ElseSubtree) (o : Other) → HoldsOther T s o → HoldsOther U s o
  other_later s o h = record { present = h.present; shows = h.shows; reads = λ small V further. h.reads small V (extends_then T U V on further) }

  pub pairs_later : (s : PairSubtrees) (ps : Pairs) → HoldsPairs T s ps → HoldsPairs U s ps
  pairs_later s ps h = record { shows = h.shows; reads = λ small V further. h.reads small V (extends_then T U V on further) }

  pub pieces_later : (s : PieceSubtrees) (ps : Pieces) → HoldsPieces T s ps → HoldsPieces U s ps
  pieces_later s ps h = record { shows = h.shows; reads = λ small V further. h.reads small V (extends_then T U V on further) }

  pub whens_later : (s : WhenSubtrees) (ws : Whens) → HoldsWhens T s ws → HoldsWhens U s ws
  whens_later s ws h = record { shows = h.shows; reads = λ small V further. h.reads small V (extends_then T U V on further) }

  pub rescues_later : (s : RescueSubtrees) (cs : Rescues) → HoldsRescues T s cs → HoldsRescues U s cs
  rescues_later s cs h = record { shows = h.shows; reads = λ small V further. h.reads small V (extends_then T U V on further) }

  pub params_later : (s : ParamSubtrees) (ps : Params) → HoldsParams T s ps → HoldsParams U s ps
  params_later s ps h = record { shows = h.shows; reads = λ small V further. h.reads small V (extends_then T U V on further) }

-- a text that is interned has its number from now on
pub interned : (old new : Texts) (n : Name) (f : Bytes) → Interns old new f n.number → n.number < length new → IsNamed new n f
interned old new n f h within = record {
  within = λ U on. slice_get_within U n.number f (on n.number f h.named);
  text = λ U on. ap (λ (x : Option Bytes). unwrap_or x []) (on n.number f h.named);
}
