-- The first of several faults.
use Rattle.std.proofs.Common.{◌↔◌, IsNone, IfSome, IfOk, Result, Ok, Err, ◌≡◌, ℕ, zero, suc, ◌<◌, ◌≤◌, Bool, true, false, nat_lt, List, [], ◌∷◌, ◌++◌, length, refl, ap, sym, subst, ◌∙◌, Option, Some, None, ◌⊎◌, inl, inr, if◌then◌else◌, Contains, get_or, arith}
use Rattle.std.proofs.lemmas.Bool.Decides.{nat_tests}
use Rattle.ruby_tree.specs.declared.surroundings.Misplaced.{Misplaced}
use Rattle.ruby_tree.specs.declared.node.TextPart.{TextPart}
use Rattle.ruby_tree.specs.declared.node.TextPart.TheVariants as text_part
use Rattle.ruby_tree.specs.declared.node.Param.{Param}
use Rattle.ruby_tree.specs.declared.node.Param.TheVariants as param
use Rattle.ruby_tree.specs.declared.node.Node.{Node}
use Rattle.ruby_tree.specs.declared.node.Node.TheViews.{out-Node}
use Rattle.ruby_tree.specs.Names.{Texts}
use Rattle.ruby_tree.specs.Tree.{SourcePosition, Tree, Pieces, no_piece, Params, no_param}
use Rattle.ruby_tree.specs.Placement.{Around, at_home, file, is_fault, fault_if, faults, form_faults, method_faults, body_faults, pieces_faults, params_faults}
use Rattle.ruby_tree.specs.FirstFault.{earlier, first_of, fault_at, root_faults, IsFirstFault}
use Rattle.ruby_tree.specs.Read.{tree_of}
use Rattle.ruby_tree.specs.Views.{read_kind, read_part, read_param}
use Rattle.ruby_tree.proofs.Opened.{tree_of-is}

pub earlier-none : (a : Option Misplaced) → earlier a None ≡ a
unfolding earlier
earlier-none None = refl
earlier-none (Some a) = refl

pub none-earlier : (a : Option Misplaced) → earlier None a ≡ a
unfolding earlier
none-earlier a = refl

-- two faults, as a test tells them apart
chosen_when : (t : Bool) (a b : Misplaced) → nat_lt b.place a.place ≡ t → earlier (Some a) (Some b) ≡ (if t then Some b else Some a)
unfolding earlier
chosen_when t a b is = ap (λ x. if x then Some b else Some a) is

pub second_first : (a b : Misplaced) → b.place < a.place → earlier (Some a) (Some b) ≡ Some b
second_first a b less = chosen_when true a b (grind (arith, nat_tests))

pub first_first : (a b : Misplaced) → a.place ≤ b.place → earlier (Some a) (Some b) ≡ Some a
first_first a b le = chosen_when false a b (grind (arith, nat_tests))

pub ruleset compared = (earlier-none, none-earlier, second_first, first_first)

-- Of two numbers one is less, or it is not.
sides : (m n : ℕ) → (m < n) ⊎ (n ≤ m)
sides m n = by (nat_lt m n) refl
  where
    by : (t : Bool) → nat_lt m n ≡ t → (m < n) ⊎ (n ≤ m)
    by true is = inl (grind (arith, nat_tests))
    by false is = inr (grind (arith, nat_tests))

three : (a b c : Misplaced) → (b.place < a.place) ⊎ (a.place ≤ b.place) → (c.place < b.place) ⊎ (b.place ≤ c.place) → (c.place < a.place) ⊎ (a.place ≤ c.place) → earlier (earlier (Some a) (Some b)) (Some c) ≡ earlier (Some a) (earlier (Some b) (Some c))
three a b c (inl x) (inl y) z = let ca : c.place < a.place = omega arith in rw (second_first a b x, second_first b c y, second_first a c ca) refl
three a b c (inl x) (inr y) z = rw (second_first a b x, first_first b c y, second_first a b x) refl
three a b c (inr x) (inl y) z = rw (first_first a b x, second_first b c y) refl
three a b c (inr x) (inr y) z = let ac : a.place ≤ c.place = omega arith in rw (first_first a b x, first_first b c y, first_first a b x, first_first a c ac) refl

pub earlier_earlier : (a b c : Option Misplaced) → earlier (earlier a b) c ≡ earlier a (earlier b c)
earlier_earlier None b c = ap (λ x. earlier x c) (none-earlier b) ∙ sym (none-earlier (earlier b c))
earlier_earlier (Some a) None c = ap (λ x. earlier x c) (earlier-none (Some a)) ∙ ap (earlier (Some a)) (sym (none-earlier c))
earlier_earlier (Some a) (Some b) None = earlier-none _ ∙ ap (earlier (Some a)) (sym (earlier-none (Some b)))
earlier_earlier (Some a) (Some b) (Some c) = three a b c (sides b.place a.place) (sides c.place b.place) (sides c.place a.place)

pub first-append : (os ps : List SourcePosition) → first_of (os ++ ps) ≡ earlier (first_of os) (first_of ps)
unfolding first_of
first-append [] ps = sym (none-earlier _)
first-append (o ∷ os) ps = ap (earlier (Some (fault_at o))) (first-append os ps) ∙ sym (earlier_earlier _ _ _)

pub first-empty : first_of [] ≡ None
unfolding first_of
first-empty = refl

pub first-one : (o : SourcePosition) → first_of (o ∷ []) ≡ Some (fault_at o)
unfolding first_of
first-one o = earlier-none _

module _ (texts : Texts) where
  -- a node that is a fault by itself, and one that is none
  pub root-fault : (c : Around) (n : Node) → is_fault c (read_kind texts (out-Node n).kind) ≡ true → first_of (root_faults c (tree_of texts n)) ≡ Some (record { line = (out-Node n).first; place = (out-Node n).place })
  root-fault c n is = ap (λ t. first_of (root_faults c t)) (tree_of-is texts n) ∙ ap (λ b. first_of (fault_if b (record { first = (out-Node n).first; line = (out-Node n).line; place = (out-Node n).place }))) is ∙ first-one _

  pub root-sound : (c : Around) (n : Node) → is_fault c (read_kind texts (out-Node n).kind) ≡ false → first_of (root_faults c (tree_of texts n)) ≡ None
  root-sound c n is = ap (λ t. first_of (root_faults c t)) (tree_of-is texts n) ∙ ap (λ b. first_of (fault_if b (record { first = (out-Node n).first; line = (out-Node n).line; place = (out-Node n).place }))) is ∙ first-empty

  -- the faults of a tree: its root, and its parts
  pub first-tree : (c : Around) (n : Node) → first_of (faults c (tree_of texts n)) ≡ earlier (first_of (root_faults c (tree_of texts n))) (first_of (form_faults c (read_kind texts (out-Node n).kind)))
  first-tree c n = rw (tree_of-is texts n) (first-append _ _)

  pub first-method : (n : Node) → first_of (method_faults (tree_of texts n)) ≡ earlier (first_of (root_faults (at_home file) (tree_of texts n))) (first_of (body_faults (read_kind texts (out-Node n).kind)))
  first-method n = rw (tree_of-is texts n) (first-append _ _)

  -- a part of a text, and the others
  pub first-part : (c : Around) (p : TextPart Node) (ps : Pieces) → first_of (pieces_faults c (read_part texts p ps)) ≡ earlier (first_of (pieces_faults c (read_part texts p no_piece))) (first_of (pieces_faults c ps))
  first-part c (text_part.Plain f) ps = sym (ap (λ x. earlier x (first_of (pieces_faults c ps))) first-empty ∙ none-earlier _)
  first-part c (text_part.Code n) ps = first-append _ _ ∙ ap (λ x. earlier x (first_of (pieces_faults c ps))) (sym (first-append (faults c (tree_of texts n)) [] ∙ ap (earlier _) first-empty ∙ earlier-none _))

  pub first-param : (c : Around) (p : Param Node) (ps : Params) → first_of (params_faults c (read_param texts p ps)) ≡ earlier (first_of (params_faults c (read_param texts p no_param))) (first_of (params_faults c ps))
  first-param c (param.Required n) ps = sym (ap (λ x. earlier x (first_of (params_faults c ps))) first-empty ∙ none-earlier _)
  first-param c (param.Rest n) ps = sym (ap (λ x. earlier x (first_of (params_faults c ps))) first-empty ∙ none-earlier _)
  first-param c (param.Block n) ps = sym (ap (λ x. earlier x (first_of (params_faults c ps))) first-empty ∙ none-earlier _)
  first-param c (param.Optional n a) ps = first-append _ _ ∙ ap (λ x. earlier x (first_of (params_faults c ps))) (sym (first-append (faults c (tree_of texts a)) [] ∙ ap (earlier _) first-empty ∙ earlier-none _))

pub ruleset walked = (first-append, first-empty, first-one, earlier-none, none-earlier, earlier_earlier, first-tree, first-method, first-part, first-param)

pub ruleset rooted = (root-fault, root-sound)

has_head : (o : SourcePosition) (os : List SourcePosition) → Contains (o ∷ os) o
has_head o os = (0, omega arith, refl)

has_tail : (o p : SourcePosition) (os : List SourcePosition) → Contains os p → Contains (o ∷ os) p
has_tail o p os c = (suc c.0, omega (arith, c.1), c.2)

head_or_tail : (o p : SourcePosition) (os : List SourcePosition) → Contains (o ∷ os) p → (o ≡ p) ⊎ Contains os p
head_or_tail o p os c = by c.0 c.1 c.2
  where
    by : (k : ℕ) → k < length (o ∷ os) → get_or (o ∷ os) k p ≡ p → (o ≡ p) ⊎ Contains os p
    by zero less is = inl is
    by (suc k) less is = inr (k, omega arith, is)

-- what the first of the faults is
abbrev IsFirstOf : List SourcePosition → Option Misplaced → Type 0
IsFirstOf os None = os ≡ []
IsFirstOf os (Some m) = IsFirstFault os m

in_none : (os : List SourcePosition) (p : SourcePosition) → os ≡ [] → Contains os p → ⊥
in_none os p is c = let less : c.0 < 0 = subst (λ x. c.0 < length x) is c.1 in omega arith

place_of : (o p : SourcePosition) → o ≡ p → o.place ≡ p.place
place_of o p is = ap (λ x. x.place) is

head_first : (o : SourcePosition) (os : List SourcePosition) → ((p : SourcePosition) → Contains os p → o.place ≤ p.place) → IsFirstFault (o ∷ os) (fault_at o)
head_first o os below = record { position = o; first = record { among = has_head o os; first = λ p c. by p (head_or_tail o p os c) }; line = refl; place = refl }
  where
    by : (p : SourcePosition) → (o ≡ p) ⊎ Contains os p → o.place ≤ p.place
    by p (inl is) = let e : o.place ≡ p.place = place_of o p is in omega arith
    by p (inr c) = below p c

tail_first : (o : SourcePosition) (os : List SourcePosition) (m : Misplaced) → m.place < o.place → IsFirstFault os m → IsFirstFault (o ∷ os) m
tail_first o os m less is = record { position = is.position; first = record { among = has_tail o is.position os is.first.among; first = λ p c. by p (head_or_tail o p os c) }; line = is.line; place = is.place }
  where
    by : (p : SourcePosition) → (o ≡ p) ⊎ Contains os p → is.position.place ≤ p.place
    by p (inl e) = let same : o.place ≡ p.place = place_of o p e in let at_m : is.position.place ≡ m.place = is.place in omega arith
    by p (inr c) = is.first.first p c

joins : (o : SourcePosition) (os : List SourcePosition) (r : Option Misplaced) → IsFirstOf os r → IsFirstOf (o ∷ os) (earlier (Some (fault_at o)) r)
joins o os None is = subst (IsFirstOf (o ∷ os)) (sym (earlier-none (Some (fault_at o)))) (head_first o os (λ p c. absurd (in_none os p is c)))
joins o os (Some m) is = by (sides m.place o.place)
  where
    by : (m.place < o.place) ⊎ (o.place ≤ m.place) → IsFirstOf (o ∷ os) (earlier (Some (fault_at o)) (Some m))
    by (inl less) = subst (IsFirstOf (o ∷ os)) (sym (second_first (fault_at o) m less)) (tail_first o os m less is)
    by (inr le) = subst (IsFirstOf (o ∷ os)) (sym (first_first (fault_at o) m le)) (head_first o os (λ p c. let at_m : is.position.place ≡ m.place = is.place in let below : is.position.place ≤ p.place = is.first.first p c in omega arith))

first_is : (os : List SourcePosition) → IsFirstOf os (first_of os)
unfolding first_of
first_is [] = refl
first_is (o ∷ os) = joins o os (first_of os) (first_is os)

pub none_first : (os : List SourcePosition) → first_of os ≡ None → os ≡ []
none_first os is = subst (IsFirstOf os) is (first_is os)

pub some_first : (os : List SourcePosition) (m : Misplaced) → first_of os ≡ Some m → IsFirstFault os m
some_first os m is = subst (IsFirstOf os) is (first_is os)

none_iff : (os : List SourcePosition) (found : Option Misplaced) → found ≡ first_of os → IsNone found ↔ (os ≡ [])
none_iff os None is = (λ n. none_first os (sym is), λ e. refl)
none_iff os (Some m) is = (λ n. let no : true ≡ false = n in cc, λ e. let no : Some m ≡ None = is ∙ ap first_of e ∙ first-empty in cc)

some_is : (os : List SourcePosition) (found : Option Misplaced) → found ≡ first_of os → IfSome found (IsFirstFault os)
some_is os None is = tt
some_is os (Some m) is = some_first os m (sym is)

-- what the answer of a walk that begins in c is for a file
pub none_told : {E : Type 0} (r : Result (Option Misplaced) E) (c d : Around) (t : Tree) → c ≡ d → IfOk r (λ found. found ≡ first_of (faults c t)) → IfOk r (λ found. IsNone found ↔ (faults d t ≡ []))
none_told (Ok found) c d t same is = none_iff (faults d t) found (is ∙ ap (λ x. first_of (faults x t)) same)
none_told (Err e) c d t same is = tt

pub first_told : {E : Type 0} (r : Result (Option Misplaced) E) (c d : Around) (t : Tree) → c ≡ d → IfOk r (λ found. found ≡ first_of (faults c t)) → IfOk r (λ found. IfSome found (IsFirstFault (faults d t)))
first_told (Ok found) c d t same is = some_is (faults d t) found (is ∙ ap (λ x. first_of (faults x t)) same)
first_told (Err e) c d t same is = tt
