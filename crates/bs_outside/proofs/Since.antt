-- How calls of a shelf follow one another.
use Rattle.std.proofs.Common.{◌≡◌, inl, inr, ℕ, suc, ◌+◌, List, [], ◌∷◌, ◌++◌, length, refl, sym, ◌∙◌, ap, subst, arith, append_assoc, length-append, add-zero}
use Rattle.std.proofs.lemmas.List.{append-nil}
use Rattle.std.specs.List.{AllByRecursion}
use Rattle.bs_outside.specs.Cache.{CacheItem, IsOneOf}
use Rattle.bs_outside.specs.History.{History, Mixes, none, guest, mine, Since}
use Rattle.bs_outside.specs.declared.names.CacheName.{CacheName}
use Rattle.bs_outside.specs.declared.names.Loaded.{Loaded}

pub mixes-append : {guests : List CacheItem} {n : ℕ} {joined : List CacheItem} {places : List ℕ} {own : List CacheItem} (later : List CacheItem) (more : List ℕ) (others : List CacheItem)
    → Mixes guests n joined places own → Mixes guests (n + length joined) later more others → Mixes guests n (joined ++ later) (places ++ more) (own ++ others)
mixes-append {guests} {n} later more others none then = subst (λ (k : ℕ). Mixes guests k later more others) (add-zero n) then
mixes-append {guests} {n} later more others (guest {items = items} item is rest) then =
    let same : n + suc (length items) ≡ suc n + length items = omega arith in
    guest item is (mixes-append later more others rest (subst (λ (k : ℕ). Mixes guests k later more others) same then))
mixes-append {guests} {n} later more others (mine {items = items} item rest) then =
    let same : n + suc (length items) ≡ suc n + length items = omega arith in
    mine item (mixes-append later more others rest (subst (λ (k : ℕ). Mixes guests k later more others) same then))

pub since-nothing : (h : History) → Since h h [] []
since-nothing h = record {
  start = refl;
  guests = refl;
  joined = [];
  past = sym (append-nil h.past);
  places = [];
  placed = sym (append-nil h.own);
  mixes = none;
  loads = sym (append-nil h.loads);
}

pub since-then : (a b c : History) (own others : List CacheItem) (loaded more : List (CacheName × Loaded)) → Since a b own loaded → Since b c others more → Since a c (own ++ others) (loaded ++ more)
since-then a b c own others loaded more first then =
    let at_b : Mixes a.guests (length b.past) then.joined then.places others = subst (λ (g : List CacheItem). Mixes g (length b.past) then.joined then.places others) first.guests then.mixes in
    let long : length b.past ≡ length a.past + length first.joined = ap length first.past ∙ length-append a.past first.joined in
    let at_end : Mixes a.guests (length a.past + length first.joined) then.joined then.places others = subst (λ (k : ℕ). Mixes a.guests k then.joined then.places others) long at_b in
    record {
      start = then.start ∙ first.start;
      guests = then.guests ∙ first.guests;
      joined = first.joined ++ then.joined;
      past = then.past ∙ ap (λ (l : List CacheItem). l ++ then.joined) first.past ∙ append_assoc a.past first.joined then.joined;
      places = first.places ++ then.places;
      placed = then.placed ∙ ap (λ (l : List ℕ). l ++ then.places) first.placed ∙ append_assoc a.own first.places then.places;
      mixes = mixes-append then.joined then.places others first.mixes at_end;
      loads = then.loads ∙ ap (λ (l : List (CacheName × Loaded)). l ++ more) first.loads ∙ append_assoc a.loads loaded more;
    }

-- what holds of each item of a list holds of one of them
pub all-one_of : (P : CacheItem → Type 0) (items : List CacheItem) (item : CacheItem) → AllByRecursion P items → IsOneOf item items → P item
all-one_of P [] item all is = absurd is
all-one_of P (first ∷ items) item all (inl here) = subst P here all.0
all-one_of P (first ∷ items) item all (inr there) = all-one_of P items item all.1 there

-- what holds of the guests' items and of the own ones holds of all that joined
pub all-mixed : (P : CacheItem → Type 0) {guests : List CacheItem} {n : ℕ} {joined : List CacheItem} {places : List ℕ} {own : List CacheItem} → AllByRecursion P guests → AllByRecursion P own → Mixes guests n joined places own → AllByRecursion P joined
all-mixed P theirs ours none = tt
all-mixed P {guests} theirs ours (guest item is rest) = (all-one_of P guests item theirs is, all-mixed P theirs ours rest)
all-mixed P theirs ours (mine item rest) = (ours.0, all-mixed P theirs ours.1 rest)
