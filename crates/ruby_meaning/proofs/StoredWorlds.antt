-- A world that is stored, and housed where that is asked, as one; and what it goes on to.
use Rattle.std.proofs.Common.{◌≡◌, ◌<◌, false, sym, subst, ◌∙◌, List, [], ◌∷◌, length}
use Rattle.ruby_meaning.specs.Value.{Code, MethodBody, written, native, reader, writer, MethodRow, Class, Objects}
use Rattle.ruby_meaning.specs.Numbers.{object_class, features}
use Rattle.ruby_meaning.specs.Store.{kind_at, class_at, is_class_or_module}
use Rattle.ruby_meaning.specs.World.{Environment, Closure, World}
use Rattle.ruby_meaning.specs.Laws.{EnvironmentsStay}
use Rattle.ruby_meaning.specs.ClassGraph.{IsGraph, StoreLeads}
use Rattle.ruby_meaning.specs.Stored.{IsClass, BodyIs, RowsAre, ClassIs, EachCode, EachClosure, CodeStored, ClosureStored, IsStored}
use Rattle.ruby_meaning.specs.Housed.{CodeHoused, ClosureHoused, WorldHoused}
use Rattle.ruby_meaning.proofs.Leading.{all_stay, stay_on}
use Rattle.ruby_meaning.proofs.StoreLeading.{less_on, store_same, store_on, stays_class}
use Rattle.ruby_meaning.proofs.StoredStores.{Asked, GoodCode, GoodClosure, closures_on, StoreKeeps, keeps_same}

pub record Good (asked : Asked) (w : World) : Type 0 where
  pub graph : IsGraph w.objects
  pub object : IsClass w.objects object_class
  pub there : features < length w.objects
  pub other : is_class_or_module (kind_at w.objects features) ≡ false
  pub rows : EachCode (GoodCode asked w.objects) w.objects
  pub closures : EachClosure (GoodClosure asked w.objects w.environments) w.closures

-- Both as one.

module _ (asked : Asked) (s : Objects) where
  body_both : (b : MethodBody) → BodyIs (CodeStored s) b → (asked.is → BodyIs (CodeHoused asked.told) b) → BodyIs (GoodCode asked s) b
  body_both (written code) h k = record { stored = h; housed = k }
  body_both (native n) h k = tt
  body_both (reader x) h k = tt
  body_both (writer x) h k = tt

  rows_both : (rs : List MethodRow) → RowsAre (CodeStored s) rs → (asked.is → RowsAre (CodeHoused asked.told) rs) → RowsAre (GoodCode asked s) rs
  rows_both [] h k = tt
  rows_both (r ∷ rs) h k = (body_both r.body h.0 (λ g. (k g).0), rows_both rs h.1 (λ g. (k g).1))

  class_both : (c : Class) → ClassIs (CodeStored s) c → (asked.is → ClassIs (CodeHoused asked.told) c) → ClassIs (GoodCode asked s) c
  class_both c h k = (rows_both c.methods h.0 (λ g. (k g).0), rows_both c.class_methods h.1 (λ g. (k g).1))

  closures_both : (es : List Environment) (all : List Closure) → EachClosure (ClosureStored s) all → (asked.is → EachClosure (ClosureHoused asked.told es) all) → EachClosure (GoodClosure asked s es) all
  closures_both es [] h k = tt
  closures_both es (d ∷ all) h k = (record { stored = h.0; housed = λ g. (k g).0 }, closures_both es all h.1 (λ g. (k g).1))

pub good_of : (asked : Asked) (w : World) → IsStored w → (asked.is → WorldHoused asked.told w) → Good asked w
good_of asked w h k = record {
  graph = h.graph;
  object = h.object;
  there = h.there;
  other = h.other;
  rows = λ n. class_both asked w.objects (class_at w.objects n) (h.rows n) (λ g. (k g).rows n);
  closures = closures_both asked w.objects w.environments w.closures h.closures (λ g. (k g).closures);
}

-- Each alone.

module _ (P Q : Code → Type 0) (f : (code : Code) → P code → Q code) where
  body_as : (b : MethodBody) → BodyIs P b → BodyIs Q b
  body_as (written code) h = f code h
  body_as (native n) h = tt
  body_as (reader x) h = tt
  body_as (writer x) h = tt

  rows_as : (rs : List MethodRow) → RowsAre P rs → RowsAre Q rs
  rows_as [] h = tt
  rows_as (r ∷ rs) h = (body_as r.body h.0, rows_as rs h.1)

  class_as : (c : Class) → ClassIs P c → ClassIs Q c
  class_as c h = (rows_as c.methods h.0, rows_as c.class_methods h.1)

closures_as : (P Q : Closure → Type 0) → ((d : Closure) → P d → Q d) → (all : List Closure) → EachClosure P all → EachClosure Q all
closures_as P Q f [] h = tt
closures_as P Q f (d ∷ all) h = (f d h.0, closures_as P Q f all h.1)

pub stored_of : (asked : Asked) (w : World) → Good asked w → IsStored w
stored_of asked w h = record {
  graph = h.graph;
  object = h.object;
  there = h.there;
  other = h.other;
  rows = λ n. class_as (GoodCode asked w.objects) (CodeStored w.objects) (λ code x. x.stored) (class_at w.objects n) (h.rows n);
  closures = closures_as (GoodClosure asked w.objects w.environments) (ClosureStored w.objects) (λ d x. x.stored) w.closures h.closures;
}

pub housed_of : (asked : Asked) (w : World) → Good asked w → asked.is → WorldHoused asked.told w
housed_of asked w h g = record {
  rows = λ n. class_as (GoodCode asked w.objects) (CodeHoused asked.told) (λ code x. x.housed g) (class_at w.objects n) (h.rows n);
  closures = closures_as (GoodClosure asked w.objects w.environments) (ClosureHoused asked.told w.environments) (λ d x. x.housed g) w.closures h.closures;
}

-- What a world goes on to: what was known of classes stays, and where it is asked the environments stay.
pub record Onward (asked : Asked) (w z : World) : Type 0 where
  pub store : StoreLeads w.objects z.objects
  pub rooms : asked.is → EnvironmentsStay w.environments z.environments

module _ (asked : Asked) where
  pub onward_same : (w : World) → Onward asked w w
  onward_same w = record { store = store_same w.objects; rooms = λ g. all_stay w.environments }

  pub onward_on : (w z y : World) → Onward asked w z → Onward asked z y → Onward asked w y
  onward_on w z y a b = record { store = store_on w.objects z.objects y.objects a.store b.store; rooms = λ g. stay_on w.environments z.environments y.environments (a.rooms g) (b.rooms g) }

  -- a world after a change
  pub record Moves (w z : World) : Type 0 where
    pub leads : Onward asked w z
    pub good : Good asked z

  -- a good world is one after a change of its objects and environments, and with other closures that stand
  pub good_on : (w z : World) → StoreKeeps asked w.objects z.objects → EachClosure (GoodClosure asked z.objects z.environments) z.closures → Good asked w → Good asked z
  good_on w z l closures s = record {
    graph = l.leads.graph s.graph;
    object = stays_class w.objects z.objects _ l.leads s.object;
    there = less_on features (length w.objects) (length z.objects) s.there l.leads.longer;
    other = l.leads.classes features s.there ∙ s.other;
    rows = l.rows s.rows;
    closures = closures;
  }

  -- the same closures
  pub moves_by : (w z : World) → StoreKeeps asked w.objects z.objects → (asked.is → EnvironmentsStay w.environments z.environments) → z.closures ≡ w.closures → Good asked w → Moves w z
  moves_by w z l rooms same s = record {
    leads = record { store = l.leads; rooms = rooms };
    good = good_on w z l (subst (λ all. EachClosure (GoodClosure asked z.objects z.environments) all) (sym same) (closures_on asked w.objects z.objects w.environments z.environments l.leads rooms w.closures s.closures)) s;
  }

  -- the same environments too
  pub moves_objects : (w z : World) → StoreKeeps asked w.objects z.objects → z.environments ≡ w.environments → z.closures ≡ w.closures → Good asked w → Moves w z
  moves_objects w z l rooms same s = moves_by w z l (λ g. subst (EnvironmentsStay w.environments) (sym rooms) (all_stay w.environments)) same s

  -- the same objects
  pub moves_rooms : (w z : World) → z.objects ≡ w.objects → (asked.is → EnvironmentsStay w.environments z.environments) → z.closures ≡ w.closures → Good asked w → Moves w z
  moves_rooms w z e rooms same s = moves_by w z (subst (λ t. StoreKeeps asked w.objects t) (sym e) (keeps_same asked w.objects)) rooms same s

  -- the same objects, environments and closures
  pub moves_same : (w z : World) → z.objects ≡ w.objects → z.environments ≡ w.environments → z.closures ≡ w.closures → Good asked w → Moves w z
  moves_same w z e rooms same s = moves_objects w z (subst (λ t. StoreKeeps asked w.objects t) (sym e) (keeps_same asked w.objects)) rooms same s
