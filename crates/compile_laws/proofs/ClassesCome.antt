-- What `class` and `module` open, and that they come to its body or to an outcome without one.
use Rattle.std.proofs.Common.{◌≡◌, ℕ, ◌+◌, Bool, true, false, ap, ◌∙◌, [], ◌++◌, Option, Some, None}
use Rattle.std.specs.Prelude.{codes}
use Rattle.ruby_tree.specs.Names.{Bytes}
use Rattle.ruby_tree.specs.Tree.{Tree}
use Rattle.ruby_meaning.specs.Value.{Value, object, class_or_module}
use Rattle.ruby_meaning.specs.Numbers.{object_class, closed_classes}
use Rattle.ruby_meaning.specs.Store.{class_cells, name_cells, is_one_of, new_object, next_number, class_at, class_name}
use Rattle.ruby_meaning.specs.Constants.{own_constant, innermost, name_behind}
use Rattle.ruby_meaning.specs.World.{World, Frame, Outcome, Full, Run}
use Rattle.ruby_meaning.specs.Steps.{reading, changing, choose, make}
use Rattle.ruby_meaning.specs.Definitions.{with_constant}
use Rattle.ruby_meaning.specs.ClassBodies.{class_alone, module_alone, same_class, make_class, refused, no_superclass, not_a, open_found, class_or_new, module_or_new, if_same_superclass, below_base, with_base, class_below, class_named, module_of_name}
use Rattle.compile_laws.specs.Calling.{has_room, class_made}
use Rattle.compile_laws.proofs.Enters.{charged_room, charged_full}
use Rattle.compile_laws.proofs.CallsCome.{Some_call, ends, same_call, by_test, by_option}

module _ (frame : Frame) (line : ℕ) (x : Bytes) (w : World) where
  abbrev held : Option Value
  held = own_constant w.objects (innermost frame.code.classes) x

  abbrev room : Bool
  room = has_room (class_cells + name_cells) w

  module _ (go : ℕ → Run) where
    abbrev makes : Bool → Option ℕ → Run
    makes is_module base =
        make (new_object (class_or_module (record { name = name_behind w.objects (innermost frame.code.classes) x; is_module = is_module; superclass = base; modules = []; methods = []; class_methods = []; constants = [] })))
        (λ n. changing (with_constant (innermost frame.code.classes) x (object n)) (go n))

    made : (is_module : Bool) (base : Option ℕ) → room ≡ true → make_class frame x is_module base go w ≡ go (next_number w.objects) (class_made frame x is_module base w)
    made is_module base e = charged_room (class_cells + name_cells) (makes is_module base) w e

    unmade : (is_module : Bool) (base : Option ℕ) → room ≡ false → make_class frame x is_module base go w ≡ Full w
    unmade is_module base e = charged_full (class_cells + name_cells) (makes is_module base) w e

    -- `class A`

    named_by : (o : Option Value) → held ≡ o → class_named frame line x go w ≡ class_or_new frame line x go o w
    named_by o e = ap (λ y. class_or_new frame line x go y w) e

    pub named_new : held ≡ None → room ≡ true → class_named frame line x go w ≡ go (next_number w.objects) (class_made frame x false (Some object_class) w)
    named_new e f = named_by None e ∙ made false (Some object_class) f

    pub named_full : held ≡ None → room ≡ false → class_named frame line x go w ≡ Full w
    named_full e f = named_by None e ∙ unmade false (Some object_class) f

    pub named_found : (v : Value) (c : ℕ) → held ≡ Some v → class_alone w.objects v ≡ Some c → class_named frame line x go w ≡ go c w
    named_found v c e f = named_by (Some v) e ∙ ap (λ y. open_found frame line x (codes "class") go y w) f

    pub named_refused : (v : Value) → held ≡ Some v → class_alone w.objects v ≡ None → class_named frame line x go w ≡ refused frame line (not_a x (codes "class")) w
    named_refused v e f = named_by (Some v) e ∙ ap (λ y. open_found frame line x (codes "class") go y w) f

    -- `module A`

    module_by : (o : Option Value) → held ≡ o → module_of_name frame line x go w ≡ module_or_new frame line x go o w
    module_by o e = ap (λ y. module_or_new frame line x go y w) e

    pub module_new : held ≡ None → room ≡ true → module_of_name frame line x go w ≡ go (next_number w.objects) (class_made frame x true None w)
    module_new e f = module_by None e ∙ made true None f

    pub module_full : held ≡ None → room ≡ false → module_of_name frame line x go w ≡ Full w
    module_full e f = module_by None e ∙ unmade true None f

    pub module_found : (v : Value) (c : ℕ) → held ≡ Some v → module_alone w.objects v ≡ Some c → module_of_name frame line x go w ≡ go c w
    module_found v c e f = module_by (Some v) e ∙ ap (λ y. open_found frame line x (codes "module") go y w) f

    pub module_refused : (v : Value) → held ≡ Some v → module_alone w.objects v ≡ None → module_of_name frame line x go w ≡ refused frame line (not_a x (codes "module")) w
    module_refused v e f = module_by (Some v) e ∙ ap (λ y. open_found frame line x (codes "module") go y w) f

    -- `class A < B`

    module _ (u : Value) where
      pub no_base : class_alone w.objects u ≡ None → class_below frame line x u go w ≡ no_superclass frame line w
      no_base e = ap (λ y. with_base frame line x go y w) e

      module _ (base : ℕ) (is : class_alone w.objects u ≡ Some base) where
        below_by : (o : Option Value) → held ≡ o → class_below frame line x u go w ≡ below_base frame line x go base o w
        below_by o e = ap (λ y. with_base frame line x go y w) is ∙ ap (λ y. below_base frame line x go base y w) e

        closed_by : (t : Bool) → held ≡ None → is_one_of base closed_classes ≡ t
            → class_below frame line x u go w ≡ choose t (reading (λ z. class_name z.objects base) (λ name. refused frame line (codes "can't inherit from " ++ name))) (make_class frame x false (Some base) go) w
        closed_by t e f = below_by None e ∙ ap (λ y. choose y (reading (λ z. class_name z.objects base) (λ name. refused frame line (codes "can't inherit from " ++ name))) (make_class frame x false (Some base) go) w) f

        pub below_new : held ≡ None → is_one_of base closed_classes ≡ false → room ≡ true → class_below frame line x u go w ≡ go (next_number w.objects) (class_made frame x false (Some base) w)
        below_new e f g = closed_by false e f ∙ made false (Some base) g

        pub below_full : held ≡ None → is_one_of base closed_classes ≡ false → room ≡ false → class_below frame line x u go w ≡ Full w
        below_full e f g = closed_by false e f ∙ unmade false (Some base) g

        pub below_closed : held ≡ None → is_one_of base closed_classes ≡ true → class_below frame line x u go w ≡ refused frame line (codes "can't inherit from " ++ class_name w.objects base) w
        below_closed e f = closed_by true e f

        module _ (v : Value) (there : held ≡ Some v) where
          pub below_refused : class_alone w.objects v ≡ None → class_below frame line x u go w ≡ refused frame line (not_a x (codes "class")) w
          below_refused f = below_by (Some v) there ∙ ap (λ y. open_found frame line x (codes "class") (if_same_superclass frame line x go base) y w) f

          same_by : (c : ℕ) (t : Bool) → class_alone w.objects v ≡ Some c → same_class (class_at w.objects c).superclass base ≡ t
              → class_below frame line x u go w ≡ choose t (go c) (refused frame line (codes "superclass mismatch for class " ++ x)) w
          same_by c t f g =
              below_by (Some v) there ∙ ap (λ y. open_found frame line x (codes "class") (if_same_superclass frame line x go base) y w) f
              ∙ ap (λ y. choose y (go c) (refused frame line (codes "superclass mismatch for class " ++ x)) w) g

          pub below_found : (c : ℕ) → class_alone w.objects v ≡ Some c → same_class (class_at w.objects c).superclass base ≡ true → class_below frame line x u go w ≡ go c w
          below_found c f g = same_by c true f g

          pub below_mismatch : (c : ℕ) → class_alone w.objects v ≡ Some c → same_class (class_at w.objects c).superclass base ≡ false → class_below frame line x u go w ≡ refused frame line (codes "superclass mismatch for class " ++ x) w
          below_mismatch c f g = same_by c false f g

-- Each comes to something, where what it opens does.
module _ (frame : Frame) (line : ℕ) (x : Bytes) (w : World) (go : (Tree → Frame → Run) → ℕ → Run) (each : (c : ℕ) (z : World) → Some_call (λ b. go b c z)) where
  there : (call : (Tree → Frame → Run) → Outcome) (c : ℕ) (z : World) → ((b : Tree → Frame → Run) → call b ≡ go b c z) → Some_call call
  there call c z e = same_call call (λ b. go b c z) e (each c z)

  pub class_named_comes : Some_call (λ b. class_named frame line x (go b) w)
  class_named_comes =
      let call : (Tree → Frame → Run) → Outcome = λ b. class_named frame line x (go b) w in
      by_option (own_constant w.objects (innermost frame.code.classes) x)
      (λ e. by_test (has_room (class_cells + name_cells) w)
      (λ f. there call _ _ (λ b. named_new frame line x w (go b) e f))
      (λ f. ends _ call (λ b. named_full frame line x w (go b) e f)))
      (λ v e. by_option (class_alone w.objects v)
      (λ f. ends _ call (λ b. named_refused frame line x w (go b) v e f))
      (λ c f. there call c w (λ b. named_found frame line x w (go b) v c e f)))

  pub module_comes : Some_call (λ b. module_of_name frame line x (go b) w)
  module_comes =
      let call : (Tree → Frame → Run) → Outcome = λ b. module_of_name frame line x (go b) w in
      by_option (own_constant w.objects (innermost frame.code.classes) x)
      (λ e. by_test (has_room (class_cells + name_cells) w)
      (λ f. there call _ _ (λ b. module_new frame line x w (go b) e f))
      (λ f. ends _ call (λ b. module_full frame line x w (go b) e f)))
      (λ v e. by_option (module_alone w.objects v)
      (λ f. ends _ call (λ b. module_refused frame line x w (go b) v e f))
      (λ c f. there call c w (λ b. module_found frame line x w (go b) v c e f)))

  pub class_below_comes : (u : Value) → Some_call (λ b. class_below frame line x u (go b) w)
  class_below_comes u =
      let call : (Tree → Frame → Run) → Outcome = λ b. class_below frame line x u (go b) w in
      by_option (class_alone w.objects u)
      (λ e. ends _ call (λ b. no_base frame line x w (go b) u e))
      (λ base is. by_option (own_constant w.objects (innermost frame.code.classes) x)
      (λ e. by_test (is_one_of base closed_classes)
      (λ f. ends _ call (λ b. below_closed frame line x w (go b) u base is e f))
      (λ f. by_test (has_room (class_cells + name_cells) w)
      (λ g. there call _ _ (λ b. below_new frame line x w (go b) u base is e f g))
      (λ g. ends _ call (λ b. below_full frame line x w (go b) u base is e f g))))
      (λ v e. by_option (class_alone w.objects v)
      (λ f. ends _ call (λ b. below_refused frame line x w (go b) u base is v e f))
      (λ c f. by_test (same_class (class_at w.objects c).superclass base)
      (λ g. there call c w (λ b. below_found frame line x w (go b) u base is v e c f g))
      (λ g. ends _ call (λ b. below_mismatch frame line x w (go b) u base is v e c f g)))))
