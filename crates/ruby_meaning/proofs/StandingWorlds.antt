-- Each change of a world that a run makes keeps what stands in it.
use Rattle.std.proofs.Common.{◌≡◌, ℕ, false, refl, sym, subst, List, [], ◌∷◌, ◌++◌, true, Option}
use Rattle.ruby_tree.specs.Names.{Bytes}
use Rattle.ruby_tree.specs.Tree.{Tree}
use Rattle.ruby_tree.specs.Placement.{Around}
use Rattle.ruby_meaning.specs.NativeName.{Native}
use Rattle.ruby_meaning.specs.Value.{Value, Code, MethodRow, written, Class, class_or_module, Object}
use Rattle.ruby_meaning.specs.Store.{is_one_of, new_object, is_class_or_module}
use Rattle.ruby_meaning.specs.Native.{gives}
use Rattle.ruby_meaning.specs.NativeAnswer.{itself, native_answer}
use Rattle.ruby_meaning.specs.World.{Closure, World, Frame, Outcome, world_of}
use Rattle.ruby_meaning.specs.Steps.{with_objects, with_object}
use Rattle.ruby_meaning.specs.Calls.{with_environment}
use Rattle.ruby_meaning.specs.Loads.{with_feature}
use Rattle.ruby_meaning.specs.Invoke.{thrown}
use Rattle.ruby_meaning.specs.Definitions.{set_local, with_constant, with_closure, with_row, with_class_row}
use Rattle.ruby_meaning.specs.ClassGraph.{above_in}
use Rattle.ruby_meaning.specs.Levels.{Sight, Telling}
use Rattle.ruby_meaning.specs.Stored.{IsClass, RowsAre, CodeStored, StoredIn, IsStored, StoredOut}
use Rattle.ruby_meaning.specs.Housed.{CodeHoused, MadeIn, WorldHoused, HousedOut, StandsFrom, InPlace}
use Rattle.ruby_meaning.proofs.Leading.{stay_on, stay_push}
use Rattle.ruby_meaning.proofs.StoreLeading.{store_on, store_behind}
use Rattle.ruby_meaning.proofs.StoredStores.{Asked, asked_by, GoodCode, StoreKeeps, keeps_made, keeps_behind, keeps_method, keeps_class_method}
use Rattle.ruby_meaning.proofs.StoredWorlds.{Good, good_of, stored_of, housed_of, Moves, moves_objects, moves_rooms, moves_same}
use Rattle.ruby_meaning.proofs.StoredCalls.{AnswerFine, native_fine}
use Rattle.ruby_meaning.proofs.StoredLoads.{moves_thrown, moves_feature}
use Rattle.ruby_meaning.proofs.StoredParts.{moves_local, moves_constant}
use Rattle.ruby_meaning.proofs.StoredTrees.{moves_closure}
use Rattle.ruby_meaning.proofs.PlacedFrames.{stays_in_place}

module _ (told : Telling) where
  abbrev asked : Asked
  asked = asked_by told

  -- a class of no rows has none that is not good
  no_rows : (s : List Object) (rows : List MethodRow) → rows ≡ [] → RowsAre (GoodCode asked s) rows
  no_rows s rows none = subst (RowsAre (GoodCode asked s)) (sym none) tt

  standing : (w z : World) → Moves asked w z → StandsFrom told w z
  standing w z m = record { leads = m.leads.store; stay = m.leads.rooms tt; stored = stored_of asked z m.good; housed = housed_of asked z m.good tt }

  pub stands_on : (w y z : World) → StandsFrom told w y → StandsFrom told y z → StandsFrom told w z
  stands_on w y z a b = record { leads = store_on w.objects y.objects z.objects a.leads b.leads; stay = stay_on w.environments y.environments z.environments a.stay b.stay; stored = b.stored; housed = b.housed }

  pub stands_out : (c : Around) (w : World) (o : Outcome) → StoredOut c w o → HousedOut told w o → StandsFrom told w (world_of o)
  stands_out c w o a b = record { leads = a.leads; stay = b.stay; stored = a.stored; housed = b.housed }

  pub stands_in_place : (c : Around) (s : Sight) (t : Tree) (frame : Frame) (w z : World) → InPlace told c s t frame w → StandsFrom told w z → InPlace told c s t frame z
  stands_in_place c s t frame w z h a = stays_in_place told c s t frame w h z a.leads a.stay a.stored a.housed

  module _ (w : World) (stored : IsStored w) (housed : WorldHoused told w) where
    good : Good asked w
    good = good_of asked w stored (λ g. housed)

    pub stands_same : (z : World) → z.objects ≡ w.objects → z.environments ≡ w.environments → z.closures ≡ w.closures → StandsFrom told w z
    stands_same z a b c = standing w z (moves_same asked w z a b c good)

    pub stands_object : (o : Object) → is_class_or_module o.kind ≡ false → StandsFrom told w (with_object o w)
    stands_object o other = standing w (with_object o w) (moves_objects asked w (with_object o w) (keeps_made asked w.objects o other) refl refl good)

    -- a class without rows, right above which classes stand
    pub stands_class : (c : Class) → c.methods ≡ [] → c.class_methods ≡ [] → ((p : ℕ) → is_one_of p (above_in (class_or_module c)) ≡ true → IsClass w.objects p) → StandsFrom told w (with_object (new_object (class_or_module c)) w)
    stands_class c none_here none_there over =
        let o : Object = new_object (class_or_module c) in
        let s = w.objects ++ o ∷ [] in
        standing w (with_object o w) (moves_objects asked w (with_object o w) (keeps_behind asked w.objects o (store_behind w.objects o over) (no_rows s c.methods none_here, no_rows s c.class_methods none_there)) refl refl good)

    pub stands_environment : (parent : Option ℕ) (locals : List (Bytes × Value)) → StandsFrom told w (with_environment parent locals w)
    stands_environment parent locals = standing w (with_environment parent locals w) (moves_rooms asked w (with_environment parent locals w) refl (λ g. stay_push w.environments (record { parent = parent; locals = locals })) refl good)

    pub stands_local : (frame : Frame) (x : Bytes) (v : Value) → StandsFrom told w (set_local frame x v w)
    stands_local frame x v = standing w (set_local frame x v w) (moves_local asked frame x v w good)

    pub stands_closure : (c : Around) (s : Sight) (d : Closure) → StoredIn c w.objects d → MadeIn told s w.environments d → StandsFrom told w (with_closure d w)
    stands_closure c s d is made = standing w (with_closure d w) (moves_closure asked d w (record { stored = (c, is); housed = λ g. (s, made) }) good)

    pub stands_row : (n : ℕ) (x : Bytes) (code : Code) → IsClass w.objects n → CodeStored w.objects code → CodeHoused told code → StandsFrom told w (with_row n (record { name = x; body = written code }) w)
    stands_row n x code is a b = standing w _ (moves_objects asked w (with_row n (record { name = x; body = written code }) w) (keeps_method asked w.objects n _ is (record { stored = a; housed = λ g. b })) refl refl good)

    pub stands_class_row : (n : ℕ) (x : Bytes) (code : Code) → IsClass w.objects n → CodeStored w.objects code → CodeHoused told code → StandsFrom told w (with_class_row n (record { name = x; body = written code }) w)
    stands_class_row n x code is a b = standing w _ (moves_objects asked w (with_class_row n (record { name = x; body = written code }) w) (keeps_class_method asked w.objects n _ is (record { stored = a; housed = λ g. b })) refl refl good)

    pub stands_constant : (n : ℕ) (x : Bytes) (v : Value) → IsClass w.objects n → StandsFrom told w (with_constant n x v w)
    stands_constant n x v is = standing w (with_constant n x v w) (moves_constant asked n x v w is good)

    pub stands_feature : (n : ℕ) → StandsFrom told w (with_feature n w)
    stands_feature n = standing w (with_feature n w) (moves_feature asked n w good)

    pub stands_thrown : (p : Option (Bytes × ℕ)) (v : Value) → StandsFrom told w (thrown p v w)
    stands_thrown p v = standing w (thrown p v w) (moves_thrown asked p v w good)

    pub stands_native : (n : Native) (self : Value) (vs : List Value) (cells : ℕ) (store : List Object) (v : Value) → native_answer n w.objects self vs ≡ itself (gives cells store v) → StandsFrom told w (with_objects store w)
    stands_native n self vs cells store v is =
        let l : StoreKeeps asked w.objects store = subst (AnswerFine asked w.objects) is (native_fine asked n w.objects self vs) in
        standing w (with_objects store w) (moves_objects asked w (with_objects store w) l refl refl good)
