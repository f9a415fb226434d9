-- Parts by other names.
use Rattle.std.proofs.Common.{◌≡◌, sym, ◌∙◌, subst, Option, Some, None}
use Rattle.std.proofs.lemmas.Bool.{ltb-true}
use Rattle.ruby_tree.specs.declared.names.Name.{Name}
use Rattle.tree_builder.specs.declared.Subtree.{Subtree}
use Rattle.ruby_lexer.specs.Bytes.{Bytes}
use Rattle.ruby_tree.specs.Names.{Texts, Extends}
use Rattle.ruby_tree.specs.Tree.{SourcePosition, Form, at}
use Rattle.ruby_tree.specs.Read.{text_of_name}
use Rattle.tree_builder.specs.Subtrees.{IsNamed, IsOtherName, Holds}
use Rattle.tree_builder.proofs.GoesOn.{extends_same, later, all_later, other_later}
use Rattle.ruby_tree.specs.Build.{Given}
use Rattle.reference_parser.specs.ReadItems.{Element}
use Rattle.parse_parts.specs.declared.given.ArgumentParts.{ArgumentParts}
use Rattle.parse_parts.specs.declared.given.ElementPart.{ElementPart}
use Rattle.parse_parts.specs.Items.{HoldsGiven, HoldsElement}

-- at the same position
pub spot_held : {T : Texts} {x : Subtree} {v o : SourcePosition} {f : Form} → v ≡ o → Holds T x (at v f) → Holds T x (at o f)
spot_held {T} {x} {v} {o} {f} is h = subst (λ (p : SourcePosition). Holds T x (at p f)) is h

-- the name of a symbol
there : {T : Texts} (n : Name) (x : Option Bytes) → IsOtherName T (Some n) x → (f : Bytes) × (x ≡ Some f) × IsNamed T n f
there {T} n x h = (text_of_name T n, sym (h.text T (extends_same T)), record { within = λ U on. ltb-true _ _ (h.within U on); text = λ U on. let both = h.text U on ∙ sym (h.text T (extends_same T)) in cc })

pub symbol_named : {T : Texts} {o : Option Name} {n : Name} {x : Option Bytes} → o ≡ Some n → IsOtherName T o x → (f : Bytes) × (x ≡ Some f) × IsNamed T n f
symbol_named {T} {o} {n} {x} is h = there n x (subst (λ (p : Option Name). IsOtherName T p x) is h)

pub symbol_missing : {T : Texts} {o : Option Name} {x : Option Bytes} → o ≡ None → IsOtherName T o x → x ≡ None
symbol_missing {T} {o} {x} is h = let g : IsOtherName T None x = subst (λ (p : Option Name). IsOtherName T p x) is h in sym (g.text T (extends_same T))

-- what is given, in a table that goes on
pub given_later : {T U : Texts} {x : ArgumentParts} {g : Given} → Extends T U → HoldsGiven T x g → HoldsGiven U x g
given_later {T} {U} {x} {g} on h = record { trees = all_later T U on _ _ h.trees; spread = h.spread; value = other_later T U on _ _ h.value; block = other_later T U on _ _ h.block }

pub element_later : {T U : Texts} {x : ElementPart} {e : Element} → Extends T U → HoldsElement T x e → HoldsElement U x e
element_later {T} {U} {x} {e} on h = record { spread = h.spread; tree = later T U on _ _ h.tree }
