-- Headers on lists of tokens: the reader takes exactly what begins a body, and at a place there is one header at most.
use Rattle.std.proofs.Common.{◌≡◌, ℕ, ◌+◌, ◌<◌, true, false, ◌&&◌, ◌⊎◌, inl, inr, codes, refl, sym, ap, ◌∙◌, arith}
use Rattle.ruby_lexer.specs.Bytes.{Bytes}
use Rattle.ruby_lexer.specs.Pieces.{Toks}
use Rattle.ruby_tree.specs.Rules.{Scope, fresh, own, next, is_word, is_kind_constant}
use Rattle.ruby_tree.specs.Grammar.{derives}
use Rattle.ruby_tree.specs.FaultLine.{count_of, Header, IsLongestHeader, of_class, of_module, of_method}
use Rattle.reference_parser.specs.Answers.{Answer, taken, fault, deep, ◌>>=◌, ◌>>>◌}
use Rattle.reference_parser.specs.Fronts.{is_newline, is_constant, method_name_at, on_self_at}
use Rattle.reference_parser.specs.ReadStatements.{readers}
use Rattle.reference_parser.specs.Stops.{class_header, module_header, method_header, header_at}
use Rattle.reference_laws.proofs.Promises.{Each, got, at_fault}
use Rattle.reference_parser.proofs.Tests.{both_true, kind_constant, other_word}
use Rattle.reference_laws.proofs.SoundTools.{each_then, each_if, each_found}
use Rattle.reference_laws.proofs.SoundBodies.{sound-parameter_list, sound-superclass}
use Rattle.reference_laws.proofs.SoundOperands.{found-name, named_as, found-on_self}
use Rattle.reference_laws.proofs.Sound.{sound}
use Rattle.reference_laws.proofs.First.{firsts}
use Rattle.reference_laws.proofs.Moves.{◌▷◌, least, at_kind, at_word, at_line}
use Rattle.reference_laws.proofs.Shorter.{movers, shorters, less_of}
use Rattle.reference_laws.proofs.ShorterItems.{moves_method_name, moves_on_self}
use Rattle.reference_laws.proofs.ShorterBodies.{moves_parameter_list, moves_superclass}
use Rattle.reference_laws.proofs.KnownFronts.{known_method_name, known_on_self}
use Rattle.reference_laws.proofs.KnownBodies.{known_parameter_list, known_superclass}
use Rattle.reference_laws.proofs.KnownStatements.{known}
use Rattle.reference_laws.proofs.StableTools.{Agree, stable_then, stable_found, stable_if, same}
use Rattle.reference_laws.proofs.StableBodies.{stable_parameter_list, stable_superclass}
use Rattle.reference_laws.proofs.Stable.{stable_more}
use Rattle.reference_laws.proofs.StopLongest.{agree_taken}

module _ (source : Bytes) where
  -- A header that the reader takes is one.
  abbrev Taken : Toks → Scope → Answer (Unit {0}) → Type 0
  Taken w s o = Each (λ (a : Unit {0}) (r : Toks) (z : Scope). Header source s w r z) o

  sound_class : (n : ℕ) (w : Toks) (s : Scope) → is_word source (codes "class") w ≡ true → Taken w s (class_header source (readers source n) w s)
  unfolding class_header
  sound_class n w s e =
      each_if (is_constant (next w)) _ _
      (λ c. each_then _ (sound-superclass source (derives source n) (readers source n) (sound source n) own (next (next w)) s) (λ o q y h. each_if (is_newline q) _ _
      (λ l. got (of_class n e (kind_constant _ c) h l))
      (λ _. at_fault)))
      (λ _. at_fault)

  sound_module : (w : Toks) (s : Scope) (n : ℕ) → is_word source (codes "module") w ≡ true → Taken w s (module_header source (readers source n) w s)
  unfolding module_header
  sound_module w s n e =
      each_if (is_constant (next w) && is_newline (next (next w))) _ _
      (λ c. let two = both_true (is_constant (next w)) (is_newline (next (next w))) c in got (of_module e (kind_constant _ two.0) two.1))
      (λ _. at_fault)

  sound_method : (n : ℕ) (w : Toks) (s : Scope) → is_word source (codes "def") w ≡ true → Taken w s (method_header source (readers source n) w s)
  unfolding method_header
  sound_method n w s e =
      each_found _ (found-on_self source (derives source n) (next w)) (λ b q i. each_found _ (found-name source true q) (λ m v j.
      each_then _ (sound-parameter_list source (derives source n) (readers source n) (sound source n) own v fresh) (λ ps r z h. got (of_method n e i (named_as source true q v m j) h))))

  pub sound_header : (n : ℕ) (w : Toks) (s : Scope) → Taken w s (header_at source (readers source n) w s)
  unfolding header_at
  sound_header n w s =
      each_if (is_word source (codes "class") w) _ _ (sound_class n w s) (λ _.
      each_if (is_word source (codes "module") w) _ _ (sound_module w s n) (λ _.
      each_if (is_word source (codes "def") w) _ _ (sound_method n w s) (λ _. at_fault)))

  -- A header is taken at some depth.
  pub depth_of : {s z : Scope} {w r : Toks} → Header source s w r z → ℕ
  depth_of (of_class n e c h l) = n
  depth_of (of_module e c l) = 0
  depth_of (of_method n e i j h) = n

  pub known_header : {s z : Scope} {w r : Toks} (h : Header source s w r z) → header_at source (readers source (depth_of h)) w s ≡ taken tt r z
  unfolding header_at class_header module_header method_header depth_of ◌>>=◌ ◌>>>◌
  known_header (of_class {s = s} {w = w} n e c h l) =
      rw (e, ap is_kind_constant c, known_superclass source (derives source n) (readers source n) (firsts source n) (shorters source n) (known source n) own _ _ _ _ _ h, l)
  known_header (of_module {w = w} e c l) =
      rw (other_word source (codes "module") (codes "class") w e refl, e, ap is_kind_constant c, l)
  known_header (of_method {w = w} n e i j h) =
      rw (
        other_word source (codes "def") (codes "class") w e refl,
        other_word source (codes "def") (codes "module") w e refl,
        e,
        known_on_self source (derives source n) _ _ _ i,
        known_method_name source true _ _ _ j,
        known_parameter_list source (derives source n) (readers source n) (firsts source n) (shorters source n) (known source n) own _ _ _ _ _ h,
      )

  stable_header : (n k : ℕ) (w : Toks) (s : Scope) → Agree (header_at source (readers source n) w s) (header_at source (readers source (n + k)) w s)
  unfolding header_at class_header module_header method_header
  stable_header n k w s =
      let S = stable_more source n k in
      stable_if (is_word source (codes "class") w)
      (stable_if (is_constant (next w)) (stable_then (stable_superclass source _ _ S own (next (next w)) s) (λ c q y. same)) same)
      (stable_if (is_word source (codes "module") w) same
      (stable_if (is_word source (codes "def") w)
      (stable_found (on_self_at source (next w)) (λ b q. stable_found (method_name_at source true q) (λ m v. stable_then (stable_parameter_list source _ _ S own v fresh) (λ ps r z. same))))
      same))

  -- A header of any depth is taken, or the reader is cut by the depth.
  pub header_taken : (n : ℕ) {s z : Scope} {w r : Toks} → Header source s w r z → (header_at source (readers source n) w s ≡ deep) ⊎ (header_at source (readers source n) w s ≡ taken tt r z)
  header_taken n {s = s} {w = w} h =
      let k = depth_of h in
      agree_taken (stable_header n k w s) (stable_header k n w s) (ap (λ (m : ℕ). header_at source (readers source m) w s) (omega arith)) (known_header h)

abbrev rest_or : Toks → Answer (Unit {0}) → Toks
rest_or w (taken t r z) = r
rest_or w fault = w
rest_or w deep = w

abbrev scope_or : Scope → Answer (Unit {0}) → Scope
scope_or s (taken t r z) = z
scope_or s fault = s
scope_or s deep = s

same_header : (o : Answer (Unit {0})) (r p : Toks) (z y : Scope) → o ≡ taken tt r z → (o ≡ deep) ⊎ (o ≡ taken tt p y) → (r ≡ p) × (z ≡ y)
same_header o r p z y e (inl d) = absurd cc
same_header o r p z y e (inr f) = (ap (rest_or r) (sym e ∙ f), ap (scope_or z) (sym e ∙ f))

module _ (source : Bytes) where
  -- There is one header at most at a place, so it is the longest.
  pub header_once : {s y z : Scope} {w r p : Toks} → Header source s w r z → Header source s w p y → (r ≡ p) × (z ≡ y)
  header_once {s = s} {y = y} {z = z} {w = w} {r = r} {p = p} h i =
      same_header (header_at source (readers source (depth_of source h)) w s) r p z y (known_header source h) (header_taken source (depth_of source h) i)

  pub longest_header : {s z : Scope} {w r : Toks} → Header source s w r z → IsLongestHeader source s w r z
  longest_header {r = r} h = record { is = h; longest = λ r1 z1 i. let rests = (header_once h i).0 in let counts : count_of r ≡ count_of r1 = ap count_of rests in omega arith }

  -- a header takes tokens
  pub shorter_header : {s z : Scope} {w r : Toks} → Header source s w r z → count_of r < count_of w
  shorter_header (of_class n e c h l) = less_of (least (at_word source (codes "class") _ e ▷ at_kind c ▷ moves_superclass source false (derives source n) (movers false source n) own _ _ _ _ _ h ▷ at_line source _ l) (omega arith))
  shorter_header (of_module e c l) = less_of (least (at_word source {b = false} {s = fresh} (codes "module") _ e ▷ at_kind c ▷ at_line source _ l) (omega arith))
  shorter_header (of_method n e i j h) =
      less_of (least (at_word source {b = false} {s = fresh} (codes "def") _ e ▷ moves_on_self source false (derives source n) (movers false source n) fresh _ _ _ i ▷ moves_method_name source false fresh true _ _ _ j ▷ moves_parameter_list source false (derives source n) (movers false source n) own _ _ _ _ _ h) (omega arith))
