-- What the walk comes to, node by node.
use Rattle.std.proofs.Common.{◌≡◌, ℕ, zero, ◌<◌, ◌≤◌, Bool, true, false, cond, nat_le, Option, Some, None, Result, Ok, Err, OnOk, refl, sym, ap, ◌∙◌, arith}
use Rattle.std.proofs.lemmas.Bool.Decides.{nat_tests}
use Rattle.std.specs.declared.boxed.Box.{Box}
use Rattle.std.specs.declared.alloc.Global.{Global}
use Rattle.ruby_tree.specs.declared.node.TextPart.{TextPart}
use Rattle.ruby_tree.specs.declared.node.TextPart.TheVariants as text_part
use Rattle.ruby_tree.specs.declared.node.Control.{Control}
use Rattle.ruby_tree.specs.declared.node.Control.TheVariants as control
use Rattle.ruby_tree.specs.declared.node.Handler.{Handler}
use Rattle.ruby_tree.specs.declared.node.Handler.TheVariants as handler
use Rattle.ruby_tree.specs.declared.node.Param.{Param}
use Rattle.ruby_tree.specs.declared.node.Param.TheVariants as param
use Rattle.ruby_tree.specs.declared.node.Node.{Node}
use Rattle.ruby_tree.specs.declared.node.Node.TheViews.{out-Node}
use Rattle.ruby_tree.specs.Names.{Texts}
use Rattle.ruby_tree.specs.Tree.{Pieces, no_piece, Params, no_param}
use Rattle.ruby_tree.specs.Read.{tree_of}
use Rattle.ruby_tree.specs.Views.{read_kind, read_part, read_param, read_control, read_handler}
use Rattle.ruby_tree.proofs.Opened.{tree_of-is}
use Rattle.local_scopes.specs.Gathering.{Gathering, gathered}
use Rattle.ruby_meaning.specs.Locals.{Gather, Gathered, place_of, params_of, params_in, of_tree, of_form, of_pieces, of_params, in_two, by_place, by_places}

-- a tree is walked as its form is
pub walk-tree : (texts : Texts) (n : Node) (place : ℕ) (all : Gathered) → of_tree place (tree_of texts n) all ≡ of_form place (read_kind texts (out-Node n).kind) all
walk-tree texts n place all = ap (λ t. of_tree place t all) (tree_of-is texts n)

-- the place of a tree
pub place-tree : (texts : Texts) (n : Node) → place_of (tree_of texts n) ≡ (out-Node n).place
place-tree texts n = ap place_of (tree_of-is texts n)

-- the parameters of a tree
pub params-tree : (texts : Texts) (n : Node) → params_of (tree_of texts n) ≡ params_in (read_kind texts (out-Node n).kind)
params-tree texts n = ap params_of (tree_of-is texts n)

le_true : (p q : ℕ) → p ≤ q → nat_le p q ≡ true
le_true p q h = grind (arith, nat_tests)

le_false : (p q : ℕ) → q < p → nat_le p q ≡ false
le_false p q h = grind (arith, nat_tests)

module _ (p : ℕ) (f : Gather) (q : ℕ) (g : Gather) (all : Gathered) where
  pub first-second : p ≤ q → by_place p f q g all ≡ g (f all)
  first-second h = ap (λ b. cond b (in_two f g) (in_two g f) all) (le_true p q h)

  pub second-first : q < p → by_place p f q g all ≡ f (g all)
  second-first h = ap (λ b. cond b (in_two f g) (in_two g f) all) (le_false p q h)

  -- a part that is missing stands nowhere
  pub no-third : by_places p f q g zero (λ all. all) all ≡ by_place p f q g all
  no-third = by (nat_le p q) (nat_le q zero) (nat_le p zero)
    where
      by : (a b c : Bool) → cond a (cond b (in_two f (in_two g (λ x. x))) (cond c (in_two f (in_two (λ x. x) g)) (in_two (λ x. x) (in_two f g)))) (cond c (in_two g (in_two f (λ x. x))) (cond b (in_two g (in_two (λ x. x) f)) (in_two (λ x. x) (in_two g f)))) all ≡ cond a (in_two f g) (in_two g f) all
      by true true c = refl
      by true false true = refl
      by true false false = refl
      by false b true = refl
      by false true false = refl
      by false false false = refl

module _ (p : ℕ) (f : Gather) (q : ℕ) (g : Gather) (r : ℕ) (h : Gather) (all : Gathered) where
  sorted : Bool → Bool → Bool → Gather
  sorted a b c = cond a (cond b (in_two f (in_two g h)) (cond c (in_two f (in_two h g)) (in_two h (in_two f g)))) (cond c (in_two g (in_two f h)) (cond b (in_two g (in_two h f)) (in_two h (in_two g f))))

  pub first-first : p ≤ q → p ≤ r → by_places p f q g r h all ≡ by_place q g r h (f all)
  unfolding sorted
  first-first pq pr = ap (λ a. sorted a (nat_le q r) (nat_le p r) all) (le_true p q pq) ∙ ap (λ c. sorted true (nat_le q r) c all) (le_true p r pr) ∙ by (nat_le q r)
    where
      by : (b : Bool) → sorted true b true all ≡ cond b (in_two g h) (in_two h g) (f all)
      by true = refl
      by false = refl

  pub third-first-second : p ≤ q → r < p → by_places p f q g r h all ≡ g (f (h all))
  unfolding sorted
  third-first-second pq rp =
      let rq : r < q = omega arith in
      ap (λ a. sorted a (nat_le q r) (nat_le p r) all) (le_true p q pq) ∙ ap (λ b. sorted true b (nat_le p r) all) (le_false q r rq) ∙ ap (λ c. sorted true false c all) (le_false p r rp)

  pub second-before : q < p → q ≤ r → by_places p f q g r h all ≡ by_place p f r h (g all)
  unfolding sorted
  second-before qp qr = ap (λ a. sorted a (nat_le q r) (nat_le p r) all) (le_false p q qp) ∙ ap (λ b. sorted false b (nat_le p r) all) (le_true q r qr) ∙ by (nat_le p r)
    where
      by : (c : Bool) → sorted false true c all ≡ cond c (in_two f h) (in_two h f) (g all)
      by true = refl
      by false = refl

  pub third-second-first : q < p → r < q → by_places p f q g r h all ≡ f (g (h all))
  unfolding sorted
  third-second-first qp rq =
      let rp : r < p = omega arith in
      ap (λ a. sorted a (nat_le q r) (nat_le p r) all) (le_false p q qp) ∙ ap (λ c. sorted false (nat_le q r) c all) (le_false p r rp) ∙ ap (λ b. sorted false b false all) (le_false q r rq)

-- a part of a text before others, and a parameter before others
pub part-then : (texts : Texts) (p : TextPart Node) (ps : Pieces) (place : ℕ) (all : Gathered) → of_pieces place (read_part texts p ps) all ≡ of_pieces place ps (of_pieces place (read_part texts p no_piece) all)
part-then texts (text_part.Plain f) ps place all = refl
part-then texts (text_part.Code n) ps place all = refl

pub param-then : (texts : Texts) (p : Param Node) (ps : Params) (place : ℕ) (all : Gathered) → of_params place (read_param texts p ps) all ≡ of_params place ps (of_params place (read_param texts p no_param) all)
param-then texts (param.Required n) ps place all = refl
param-then texts (param.Optional n a) ps place all = refl
param-then texts (param.Rest n) ps place all = refl
param-then texts (param.Block n) ps place all = refl

-- What a call tells.

pub tree-told : {T E : Type 0} (texts : Texts) (n : Node) (old new : Gathering) (r : Result T E) → OnOk r ((place : ℕ) → gathered new place ≡ of_form place (read_kind texts (out-Node n).kind) (gathered old place)) → OnOk r ((place : ℕ) → gathered new place ≡ of_tree place (tree_of texts n) (gathered old place))
tree-told texts n old new (Ok x) h = λ place. h place ∙ sym (walk-tree texts n place (gathered old place))
tree-told texts n old new (Err e) h = tt

-- two and three parts of a node
abbrev of_two : Texts → ℕ → Node → Node → Gather
of_two texts place m n = by_place (place_of (tree_of texts m)) (of_tree place (tree_of texts m)) (place_of (tree_of texts n)) (of_tree place (tree_of texts n))

abbrev of_three : Texts → ℕ → Node → Node → Node → Gather
of_three texts place m n o = by_places (place_of (tree_of texts m)) (of_tree place (tree_of texts m)) (place_of (tree_of texts n)) (of_tree place (tree_of texts n)) (place_of (tree_of texts o)) (of_tree place (tree_of texts o))

module _ {T E : Type 0} (texts : Texts) (old new : Gathering) (r : Result T E) (a b : Box Node Global) (o : Option (Box Node Global)) (m n : Node) (m-is : m ≡ a.value) (n-is : n ≡ b.value) where
  pub if-two : (x : Control Node) → x ≡ control.If a b o → o ≡ None → OnOk r ((place : ℕ) → gathered new place ≡ of_two texts place m n (gathered old place)) → OnOk r ((place : ℕ) → gathered new place ≡ of_form place (read_control texts x) (gathered old place))
  if-two x is none h = by r h
    where
      by : (r : Result T E) → OnOk r ((place : ℕ) → gathered new place ≡ of_two texts place m n (gathered old place)) → OnOk r ((place : ℕ) → gathered new place ≡ of_form place (read_control texts x) (gathered old place))
      by (Ok y) h = λ place.
          h place
          ∙ ap (λ (k : Node). of_two texts place k n (gathered old place)) m-is
          ∙ ap (λ (k : Node). of_two texts place a.value k (gathered old place)) n-is
          ∙ sym (no-third (place_of (tree_of texts a.value)) (of_tree place (tree_of texts a.value)) (place_of (tree_of texts b.value)) (of_tree place (tree_of texts b.value)) (gathered old place))
          ∙ ap (λ (k : Control Node). of_form place (read_control texts k) (gathered old place)) (sym (is ∙ ap (λ (k : Option (Box Node Global)). control.If a b k) none))
      by (Err e) h = tt

  pub if-three : (x : Control Node) (c : Box Node Global) (l : Node) → l ≡ c.value → x ≡ control.If a b o → o ≡ Some c → OnOk r ((place : ℕ) → gathered new place ≡ of_three texts place m n l (gathered old place)) → OnOk r ((place : ℕ) → gathered new place ≡ of_form place (read_control texts x) (gathered old place))
  if-three x c l l-is is some h = by r h
    where
      by : (r : Result T E) → OnOk r ((place : ℕ) → gathered new place ≡ of_three texts place m n l (gathered old place)) → OnOk r ((place : ℕ) → gathered new place ≡ of_form place (read_control texts x) (gathered old place))
      by (Ok y) h = λ place.
          h place
          ∙ ap (λ (k : Node). of_three texts place k n l (gathered old place)) m-is
          ∙ ap (λ (k : Node). of_three texts place a.value k l (gathered old place)) n-is
          ∙ ap (λ (k : Node). of_three texts place a.value b.value k (gathered old place)) l-is
          ∙ ap (λ (k : Control Node). of_form place (read_control texts k) (gathered old place)) (sym (is ∙ ap (λ (k : Option (Box Node Global)). control.If a b k) some))
      by (Err e) h = tt

  pub rescue-two : (x : Handler Node) → x ≡ handler.Rescue a o b → o ≡ None → OnOk r ((place : ℕ) → gathered new place ≡ of_two texts place m n (gathered old place)) → OnOk r ((place : ℕ) → gathered new place ≡ of_form place (read_handler texts x) (gathered old place))
  rescue-two x is none h = by r h
    where
      by : (r : Result T E) → OnOk r ((place : ℕ) → gathered new place ≡ of_two texts place m n (gathered old place)) → OnOk r ((place : ℕ) → gathered new place ≡ of_form place (read_handler texts x) (gathered old place))
      by (Ok y) h = λ place.
          h place
          ∙ ap (λ (k : Node). of_two texts place k n (gathered old place)) m-is
          ∙ ap (λ (k : Node). of_two texts place a.value k (gathered old place)) n-is
          ∙ sym (no-third (place_of (tree_of texts a.value)) (of_tree place (tree_of texts a.value)) (place_of (tree_of texts b.value)) (of_tree place (tree_of texts b.value)) (gathered old place))
          ∙ ap (λ (k : Handler Node). of_form place (read_handler texts k) (gathered old place)) (sym (is ∙ ap (λ (k : Option (Box Node Global)). handler.Rescue a k b) none))
      by (Err e) h = tt

  pub rescue-three : (x : Handler Node) (c : Box Node Global) (l : Node) → l ≡ c.value → x ≡ handler.Rescue a o b → o ≡ Some c → OnOk r ((place : ℕ) → gathered new place ≡ of_three texts place m n l (gathered old place)) → OnOk r ((place : ℕ) → gathered new place ≡ of_form place (read_handler texts x) (gathered old place))
  rescue-three x c l l-is is some h = by r h
    where
      by : (r : Result T E) → OnOk r ((place : ℕ) → gathered new place ≡ of_three texts place m n l (gathered old place)) → OnOk r ((place : ℕ) → gathered new place ≡ of_form place (read_handler texts x) (gathered old place))
      by (Ok y) h = λ place.
          h place
          ∙ ap (λ (k : Node). of_three texts place k n l (gathered old place)) m-is
          ∙ ap (λ (k : Node). of_three texts place a.value k l (gathered old place)) n-is
          ∙ ap (λ (k : Node). of_three texts place a.value b.value k (gathered old place)) l-is
          ∙ ap (λ (k : Handler Node). of_form place (read_handler texts k) (gathered old place)) (sym (is ∙ ap (λ (k : Option (Box Node Global)). handler.Rescue a k b) some))
      by (Err e) h = tt

-- for `using(..)` on the functions of the walk
pub ruleset walked = (walk-tree, place-tree, part-then, param-then)
