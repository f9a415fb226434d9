-- Lists, objects and what stands in them.
use Rattle.std.proofs.Common.{◌≡◌, ℕ, ℤ, zero, suc, ◌<◌, ◌≤◌, Bool, true, false, if◌then◌else◌, List, [], ◌∷◌, ◌++◌, length, codes, refl, sym, ◌∙◌, ap, subst, ◌⊎◌, inl, inr, append_assoc, append-nil, length-append, arith, Result, Ok, Err, MatchResult, Bor, map}
use Rattle.std.proofs.lemmas.Bool.Decides.{nat_tests}
use Rattle.std.specs.Str.{bytes_eq}
use Rattle.indexmap.specs.IndexMap.{insert_all, insert_entry}
use Rattle.msgpack_codec.specs.declared.value.Value.{Value}
use Rattle.msgpack_codec.specs.declared.value.Value.TheVariants as value
use Rattle.msgpack_codec.specs.declared.stop.Stop.{Stop}
use Rattle.msgpack_codec.specs.declared.stop.Stop.TheVariants as stop
use Rattle.data_text.specs.Json.{is_digit, is_blank, behind_blanks, BeginsNoDigit, NumberAt, ScalarAt, NestAt, ValueAt, RunAt, CharAt, BracketsAt, ElementAt, MemberAt, KeyAt, DelimiterAt, pair_of, pairs_of}
use Rattle.data_text.specs.Reading.{Found, FoundValue, Begins, Shorts, Stopped, StoppedBy, Anything, Fits, Marked, ListAt, MapAt, EntriesAt}
use Rattle.data_text.proofs.Chains.{IsChain, IsView, IsBehind, IsViewAt, found_both, stop_first, stop_second, found_view, stop_view, found_behind, stop_behind, stop_at}
use Rattle.data_text.proofs.Runs.{Behind, none_yet, one_more, last_part, stop_run}
use Rattle.data_text.proofs.Spaces.{Skips, skips, IsBlind, found_skipped, stop_skipped, no_blank, tight_first, not_blank}
use Rattle.data_text.proofs.Digits.{number_first}
use Rattle.data_text.proofs.Letters.{pair_is}
use Rattle.data_text.proofs.Scalars.{scalar_some, found_value, stop_value}

first_is : (b c : ℕ) (m k : List ℕ) → b ∷ m ≡ c ∷ k → b ≡ c
first_is b c m k e = cc

rest_is : (b c : ℕ) (m k : List ℕ) → b ∷ m ≡ c ∷ k → k ≡ m
rest_is b c m k e = cc

nil_cons : (b : ℕ) (t : List ℕ) → [] ≡ b ∷ t → ⊥
nil_cons b t e = absurd (cc)

digit_above : (b : ℕ) → is_digit b ≡ true → 32 < b
digit_above b h = grind (arith, nat_tests)

digit_below : (b : ℕ) → is_digit b ≡ true → b ≤ 57
digit_below b h = grind (arith, nat_tests)

high_no_digit : (b : ℕ) → 57 < b → is_digit b ≡ false
high_no_digit b h = grind (arith, nat_tests)

bracket_high : (b : ℕ) → ((b ≡ 91) ⊎ ((b ≡ 123) ⊎ (b ≡ 93))) → b ≤ 57 → ⊥
bracket_high b (inl e) h = omega arith
bracket_high b (inr (inl e)) h = omega arith
bracket_high b (inr (inr e)) h = omega arith

other_first : (b c : ℕ) (m k : List ℕ) → b ∷ m ≡ c ∷ k → ((c ≡ 91) ⊎ ((c ≡ 123) ⊎ (c ≡ 93)) → ⊥) → ((b ≡ 91) ⊎ ((b ≡ 123) ⊎ (b ≡ 93))) → ⊥
other_first b c m k e n h = n (subst (λ v. (v ≡ 91) ⊎ ((v ≡ 123) ⊎ (v ≡ 93))) (first_is b c m k e) h)

not_bracket : (c : ℕ) → ((c ≡ 91 → ⊥) × ((c ≡ 123 → ⊥) × (c ≡ 93 → ⊥))) → (c ≡ 91) ⊎ ((c ≡ 123) ⊎ (c ≡ 93)) → ⊥
not_bracket c n (inl e) = n.0 e
not_bracket c n (inr (inl e)) = n.1.0 e
not_bracket c n (inr (inr e)) = n.1.1 e

-- the first bytes of values
digit_no_blank : (b : ℕ) → is_digit b ≡ true → is_blank b ≡ false
digit_no_blank b h = not_blank b (digit_above b h)

blank_no_digit : (b : ℕ) → is_blank b ≡ true → is_digit b ≡ false
blank_no_digit b h = grind (arith, nat_tests)

begin_no_blank : (b : ℕ) → ((b ≡ 45) ⊎ (is_digit b ≡ true)) → is_blank b ≡ false
begin_no_blank b (inl e) = not_blank b (omega arith)
begin_no_blank b (inr e) = digit_no_blank b e

tight_at : (b : ℕ) (z k : List ℕ) → z ≡ b ∷ k → is_blank b ≡ false → behind_blanks z ≡ z
tight_at b z k e n = ap behind_blanks e ∙ no_blank b k n ∙ sym e

number_tight : (n : ℤ) (z t : List ℕ) → NumberAt n z t → behind_blanks z ≡ z
number_tight n [] t h = refl
number_tight n (b ∷ m) t h = no_blank b m (begin_no_blank b (number_first b n m t h))

scalar_tight : (v : Value) (z t : List ℕ) → ScalarAt v z t → behind_blanks z ≡ z
scalar_tight v z t (ScalarAt.null e is) = tight_at 110 z (codes "ull" ++ t) e refl
scalar_tight v z t (ScalarAt.truth e is) = tight_at 116 z (codes "rue" ++ t) e refl
scalar_tight v z t (ScalarAt.falsity e is) = tight_at 102 z (codes "alse" ++ t) e refl
scalar_tight v z t (ScalarAt.number n h is) = number_tight n z t h
scalar_tight v z t (ScalarAt.string s m e h is) = tight_at 34 z m e refl

pub value_tight : (levels : ℕ) (v : Value) (z t : List ℕ) → ValueAt levels v z t → behind_blanks z ≡ z
value_tight zero v z t h = scalar_tight v z t h
value_tight (suc n) v z t (NestAt.scalar h) = scalar_tight v z t h
value_tight (suc n) v z t (NestAt.list items m e h is) = tight_at 91 z m e refl
value_tight (suc n) v z t (NestAt.object members m e h is) = tight_at 123 z m e refl

pub value_some : (levels : ℕ) (v : Value) (t : List ℕ) → ValueAt levels v [] t → ⊥
value_some zero v t h = scalar_some v t h
value_some (suc n) v t (NestAt.scalar h) = scalar_some v t h
value_some (suc n) v t (NestAt.list items m e h is) = nil_cons 91 m e
value_some (suc n) v t (NestAt.object members m e h is) = nil_cons 123 m e

number_low : (b : ℕ) → ((b ≡ 45) ⊎ (is_digit b ≡ true)) → b ≤ 57
number_low b (inl e) = omega arith
number_low b (inr e) = digit_below b e

-- no scalar begins with a bracket
scalar_no_bracket : (v : Value) (b : ℕ) (m t : List ℕ) → ((b ≡ 91) ⊎ ((b ≡ 123) ⊎ (b ≡ 93))) → ScalarAt v (b ∷ m) t → ⊥
scalar_no_bracket v b m t k (ScalarAt.null e is) = other_first b 110 m (codes "ull" ++ t) e (not_bracket 110 ((λ q. omega arith), ((λ q. omega arith), (λ q. omega arith)))) k
scalar_no_bracket v b m t k (ScalarAt.truth e is) = other_first b 116 m (codes "rue" ++ t) e (not_bracket 116 ((λ q. omega arith), ((λ q. omega arith), (λ q. omega arith)))) k
scalar_no_bracket v b m t k (ScalarAt.falsity e is) = other_first b 102 m (codes "alse" ++ t) e (not_bracket 102 ((λ q. omega arith), ((λ q. omega arith), (λ q. omega arith)))) k
scalar_no_bracket v b m t k (ScalarAt.number n h is) = bracket_high b k (number_low b (number_first b n m t h))
scalar_no_bracket v b m t k (ScalarAt.string s r e h is) = other_first b 34 m r e (not_bracket 34 ((λ q. omega arith), ((λ q. omega arith), (λ q. omega arith)))) k

value_no_close : (levels : ℕ) (v : Value) (u t : List ℕ) → ValueAt levels v (93 ∷ u) t → ⊥
value_no_close zero v u t h = scalar_no_bracket v 93 u t (inr (inr refl)) h
value_no_close (suc n) v u t (NestAt.scalar h) = scalar_no_bracket v 93 u t (inr (inr refl)) h
value_no_close (suc n) v u t (NestAt.list items m e h is) = let k = first_is 93 91 u m e in omega (arith, k)
value_no_close (suc n) v u t (NestAt.object members m e h is) = let k = first_is 93 123 u m e in omega (arith, k)

-- null is a value at each depth
value_null : (levels : ℕ) (t : List ℕ) → ValueAt levels value.Nil (codes "null" ++ t) t
value_null zero t = ScalarAt.null refl refl
value_null (suc n) t = NestAt.scalar (ScalarAt.null refl refl)

-- elements
element_blind : (levels close : ℕ) → IsBlind (Marked (ElementAt (ValueAt levels) close))
element_blind levels close = λ x u v t e h. record { behind = h.behind; inner = subst (λ k. ValueAt levels x.0 k h.behind) e h.inner; delimiter = h.delimiter }

delimiter_some : (close : ℕ) (last : Bool) (t : List ℕ) → DelimiterAt close last [] t → ⊥
delimiter_some close last t h = nil_cons _ t h

fits_front : (r front q u : List ℕ) → r ≡ front ++ q → (front ≡ [] → ⊥) → Fits r (front ++ u)
fits_front r [] q u e n = absurd (n refl)
fits_front r (b ∷ front) q u e n = inr (record { byte = b; r_rest = front ++ q; u_rest = front ++ u; r_is = e; u_is = refl })

pub fits_byte : (r front rest u : List ℕ) (b : ℕ) → r ≡ front ++ b ∷ rest → Fits r (front ++ b ∷ u)
fits_byte r [] rest u b e = inr (record { byte = b; r_rest = rest; u_rest = u; r_is = e; u_is = refl })
fits_byte r (x ∷ front) rest u b e = inr (record { byte = x; r_rest = front ++ b ∷ rest; u_rest = front ++ b ∷ u; r_is = e; u_is = refl })

pub fits_self : (r : List ℕ) → Fits r r
fits_self [] = inl tt
fits_self (b ∷ r) = inr (record { byte = b; r_rest = r; u_rest = r; r_is = refl; u_is = refl })

pub fits_more : (r front rest u : List ℕ) → r ≡ front ++ rest → BeginsNoDigit u → Fits r (front ++ u)
fits_more r [] rest u e n = inl n
fits_more r (x ∷ front) rest u e n = inr (record { byte = x; r_rest = front ++ rest; u_rest = front ++ u; r_is = e; u_is = refl })

blank_first : (b : ℕ) (u k : List ℕ) (c : ℕ) (blank : Bool) → is_blank b ≡ blank → is_digit c ≡ false → behind_blanks (b ∷ u) ≡ c ∷ k → is_digit b ≡ false
blank_first b u k c true e n h = blank_no_digit b e
blank_first b u k c false e n h = ap is_digit (first_is b c u k (sym (no_blank b u e) ∙ h)) ∙ n

no_digit_behind : (u k : List ℕ) (c : ℕ) → is_digit c ≡ false → behind_blanks u ≡ c ∷ k → BeginsNoDigit u
no_digit_behind [] k c n h = tt
no_digit_behind (b ∷ u) k c n h = blank_first b u k c (is_blank b) refl n h

mark_no_digit : (close : ℕ) (last : Bool) → 57 < close → is_digit (if last then close else 44) ≡ false
mark_no_digit close true h = high_no_digit close h
mark_no_digit close false h = refl

pub tight_front : (front rest u : List ℕ) (b : ℕ) → behind_blanks (front ++ b ∷ rest) ≡ front ++ b ∷ rest → behind_blanks (front ++ b ∷ u) ≡ front ++ b ∷ u
tight_front [] rest u b e = no_blank b u (tight_first b rest e)
tight_front (x ∷ front) rest u b e = no_blank x (front ++ b ∷ u) (tight_first x (front ++ b ∷ rest) e)

module _ (levels close : ℕ) (high : 57 < close) where
  element_at : (v : Value) (last : Bool) (z k t : List ℕ) → ValueAt levels v z k → DelimiterAt close last k t → ElementAt (ValueAt levels) close v last z t
  element_at v last z k t h d = record { behind = k; inner = subst (λ s. ValueAt levels v s k) (sym (value_tight levels v z k h)) h; delimiter = d }

  front_some : (last : Bool) (r q : List ℕ) (d : Found (DelimiterAt close) last r q) → d.front ≡ [] → ⊥
  front_some last r q d e = delimiter_some close last [] (subst (λ k. DelimiterAt close last (k ++ []) []) e (d.reads []))

  found_tight : (v : Value) (last : Bool) (rest r q : List ℕ) → FoundValue (ValueAt levels) v rest r → Found (DelimiterAt close) last r q → Found (Marked (ElementAt (ValueAt levels) close)) (v, last) rest q
  found_tight v last rest r q f d = record {
    front = f.front ++ d.front;
    parts = f.parts ∙ ap (λ k. f.front ++ k) d.parts ∙ sym (append_assoc f.front d.front q);
    reads = λ u. subst (λ k. ElementAt (ValueAt levels) close v last k u) (sym (append_assoc f.front d.front u))
        (element_at v last (f.front ++ (d.front ++ u)) (d.front ++ u) u (f.reads (d.front ++ u) (fits_front r d.front q u d.parts (front_some last r q d))) (d.reads u));
    only = λ y u t h.
        let fits = fits_front r d.front q u d.parts (front_some last r q d) in
        let same : behind_blanks ((f.front ++ d.front) ++ u) ≡ f.front ++ (d.front ++ u) = ap behind_blanks (append_assoc f.front d.front u) ∙ value_tight levels v (f.front ++ (d.front ++ u)) (d.front ++ u) (f.reads (d.front ++ u) fits) in
        let (p, p2) = f.only y.0 (d.front ++ u) h.behind fits (subst (λ k. ValueAt levels y.0 k h.behind) same h.inner) in
        let (q1, q2) = d.only y.1 u t (subst (λ k. DelimiterAt close y.1 k t) p2 h.delimiter) in
        (pair_is y.0 v y.1 last p q1, q2);
  }

  begun_value : (z : List ℕ) → Begins BeginsNoDigit (ValueAt levels) z → Begins Anything (Marked (ElementAt (ValueAt levels) close)) z
  begun_value z b = record {
    value = (b.value, true);
    more = b.more ++ close ∷ [];
    reads = λ t h.
        subst (λ k. ElementAt (ValueAt levels) close b.value true (z ++ k) t) (sym (append_assoc b.more (close ∷ []) t))
        (element_at b.value true (z ++ (b.more ++ close ∷ t)) (close ∷ t) t (b.reads (close ∷ t) (high_no_digit close high)) (no_blank close t (not_blank close (omega arith))));
  }

  fits_begun : (r front k m t : List ℕ) (last : Bool) → r ≡ front ++ k → DelimiterAt close last (front ++ m) t → Fits r (front ++ m)
  fits_begun r [] k m t last e d = inl (no_digit_behind m t _ (mark_no_digit close last high) d)
  fits_begun r (x ∷ front) k m t last e d = inr (record { byte = x; r_rest = front ++ k; u_rest = front ++ m; r_is = e; u_is = refl })

  begun_delimiter : (v : Value) (rest r front k : List ℕ) → (f : FoundValue (ValueAt levels) v rest r) → r ≡ front ++ k → Begins Anything (DelimiterAt close) front → Begins Anything (Marked (ElementAt (ValueAt levels) close)) (f.front ++ front)
  begun_delimiter v rest r front k f e b = record {
    value = (v, b.value);
    more = b.more;
    reads = λ t h.
        subst (λ s. ElementAt (ValueAt levels) close v b.value s t) (sym (append_assoc f.front front (b.more ++ t)))
        (element_at v b.value (f.front ++ (front ++ (b.more ++ t))) (front ++ (b.more ++ t)) t (f.reads (front ++ (b.more ++ t)) (fits_begun r front k (b.more ++ t) t b.value e (b.reads t tt))) (b.reads t tt));
  }

  stop_in_value : (rest : List ℕ) → behind_blanks rest ≡ rest → (e : Stop) → StoppedBy BeginsNoDigit (ValueAt levels) rest e → Stopped (Marked (ElementAt (ValueAt levels) close)) rest e
  stop_in_value rest tight stop.Short b = record {
    begins = begun_value rest b.begins;
    none = λ y t h. b.none y.0 h.behind (subst (λ k. ValueAt levels y.0 k h.behind) tight h.inner);
  }
  stop_in_value rest tight (stop.Bad left) b = record {
    front = b.front;
    byte = b.byte;
    rest = b.rest;
    parts = b.parts;
    count = b.count;
    begins = begun_value b.front b.begins;
    dead = λ y u t h.
        let same : behind_blanks (b.front ++ b.byte ∷ u) ≡ b.front ++ b.byte ∷ u = tight_front b.front b.rest u b.byte (ap behind_blanks (sym b.parts) ∙ tight ∙ b.parts) in
        b.dead y.0 u h.behind (subst (λ k. ValueAt levels y.0 k h.behind) same h.inner);
  }
  stop_in_value rest tight stop.NoMemory b = tt

  stop_in_delimiter : (v : Value) (rest r : List ℕ) → FoundValue (ValueAt levels) v rest r → (e : Stop) → Stopped (DelimiterAt close) r e → Stopped (Marked (ElementAt (ValueAt levels) close)) rest e
  stop_in_delimiter v rest r f stop.Short b = subst (Shorts Anything (Marked (ElementAt (ValueAt levels) close))) (sym f.parts) (record {
    begins = begun_delimiter v rest r r [] f (sym (append-nil r)) b.begins;
    none = λ y t h.
        let fits = fits_self r in
        let same : behind_blanks (f.front ++ r) ≡ f.front ++ r = value_tight levels v (f.front ++ r) r (f.reads r fits) in
        let (p, p2) = f.only y.0 r h.behind fits (subst (λ k. ValueAt levels y.0 k h.behind) same h.inner) in
        b.none y.1 t (subst (λ k. DelimiterAt close y.1 k t) p2 h.delimiter);
  })
  stop_in_delimiter v rest r f (stop.Bad left) b = record {
    front = f.front ++ b.front;
    byte = b.byte;
    rest = b.rest;
    parts = f.parts ∙ ap (λ k. f.front ++ k) b.parts ∙ sym (append_assoc f.front b.front (b.byte ∷ b.rest));
    count = b.count;
    begins = begun_delimiter v rest r b.front (b.byte ∷ b.rest) f b.parts b.begins;
    dead = λ y u t h.
        let fits = fits_byte r b.front b.rest u b.byte b.parts in
        let same : behind_blanks ((f.front ++ b.front) ++ b.byte ∷ u) ≡ f.front ++ (b.front ++ b.byte ∷ u) =
        ap behind_blanks (append_assoc f.front b.front (b.byte ∷ u)) ∙ value_tight levels v (f.front ++ (b.front ++ b.byte ∷ u)) (b.front ++ b.byte ∷ u) (f.reads (b.front ++ b.byte ∷ u) fits) in
        let (p, p2) = f.only y.0 (b.front ++ b.byte ∷ u) h.behind fits (subst (λ k. ValueAt levels y.0 k h.behind) same h.inner) in
        b.dead y.1 u t (subst (λ k. DelimiterAt close y.1 k t) p2 h.delimiter);
  }
  stop_in_delimiter v rest r f stop.NoMemory b = tt

  pub element_found : (v : Value) (last : Bool) (w rest r q : List ℕ) → rest ≡ behind_blanks w → FoundValue (ValueAt levels) v rest r → Found (DelimiterAt close) last r q → Found (Marked (ElementAt (ValueAt levels) close)) (v, last) w q
  element_found v last w rest r q e f d = found_skipped (Marked (ElementAt (ValueAt levels) close)) (element_blind levels close) (v, last) w rest q (subst (Skips w) (sym e) (skips w)) (found_tight v last rest r q f d)

  pub element_stop1 : (w rest : List ℕ) (e : Stop) → rest ≡ behind_blanks w → StoppedBy BeginsNoDigit (ValueAt levels) rest e → Stopped (Marked (ElementAt (ValueAt levels) close)) w e
  element_stop1 w rest e is h =
      let s : Skips w rest = subst (Skips w) (sym is) (skips w) in
      stop_skipped (Marked (ElementAt (ValueAt levels) close)) (element_blind levels close) w rest s e (stop_in_value rest s.tight e h)

  pub element_stop2 : (v : Value) (w rest r : List ℕ) (e : Stop) → rest ≡ behind_blanks w → FoundValue (ValueAt levels) v rest r → Stopped (DelimiterAt close) r e → Stopped (Marked (ElementAt (ValueAt levels) close)) w e
  element_stop2 v w rest r e is f h =
      let s : Skips w rest = subst (Skips w) (sym is) (skips w) in
      stop_skipped (Marked (ElementAt (ValueAt levels) close)) (element_blind levels close) w rest s e (stop_in_delimiter v rest r f e h)

-- something that ends a list, and something that ends an object
pub list_closing : (levels : ℕ) → (x : Value) × (c : List ℕ) × ((t : List ℕ) → ElementAt (ValueAt levels) 93 x true (c ++ t) t)
list_closing levels = (value.Nil, codes "null]", λ t. record { behind = 93 ∷ t; inner = value_null levels (93 ∷ t); delimiter = refl })

object_element : (levels : ℕ) → (x : Value) × (c : List ℕ) × ((t : List ℕ) → ElementAt (ValueAt levels) 125 x true (c ++ t) t)
object_element levels = (value.Nil, codes "null}", λ t. record { behind = 125 ∷ t; inner = value_null levels (125 ∷ t); delimiter = refl })

-- members
member_chain : (levels : ℕ) → IsChain KeyAt (λ k. Marked (ElementAt (ValueAt levels) 125)) (Marked (MemberAt (ValueAt levels))) (λ k p. ((k, p.0), p.1))
member_chain levels = record {
  join = λ k p u m t h e. record { behind = m; key = h; element = e };
  split = λ z u t h. (z.0.0, (z.0.1, z.1), h.behind, h.key, h.element, refl);
  filled = λ k u m h. let (x, c, reads) = object_element levels in ((x, true), c, reads);
}

pub member_stop1 : (levels : ℕ) (w : List ℕ) (e : Stop) → Stopped KeyAt w e → Stopped (Marked (MemberAt (ValueAt levels))) w e
member_stop1 levels w e h = stop_first KeyAt (λ k. Marked (ElementAt (ValueAt levels) 125)) (Marked (MemberAt (ValueAt levels))) (λ k p. ((k, p.0), p.1)) (member_chain levels) w e h

pub member_stop2 : (levels : ℕ) (k w r : List ℕ) (e : Stop) → Found KeyAt k w r → Stopped (Marked (ElementAt (ValueAt levels) 125)) r e → Stopped (Marked (MemberAt (ValueAt levels))) w e
member_stop2 levels k w r e f h = stop_second KeyAt (λ k. Marked (ElementAt (ValueAt levels) 125)) (Marked (MemberAt (ValueAt levels))) (λ k p. ((k, p.0), p.1)) (member_chain levels) k w r f e h

pub member_found : (levels : ℕ) (k : List ℕ) (v : Value) (last : Bool) (w r q : List ℕ) → Found KeyAt k w r → Found (Marked (ElementAt (ValueAt levels) 125)) (v, last) r q → Found (Marked (MemberAt (ValueAt levels))) ((k, v), last) w q
member_found levels k v last w r q f g = found_both KeyAt (λ k. Marked (ElementAt (ValueAt levels) 125)) (Marked (MemberAt (ValueAt levels))) (λ k p. ((k, p.0), p.1)) (member_chain levels) k (v, last) w r q f g

object_closing : (levels : ℕ) → (x : List ℕ × Value) × (c : List ℕ) × ((t : List ℕ) → MemberAt (ValueAt levels) x true (c ++ t) t)
object_closing levels = (
  ([], value.Nil),
  codes "\"\":null}",
  λ t. record {
    behind = codes "null}" ++ t;
    key = record { quoted = codes "\":null}" ++ t; behind = codes ":null}" ++ t; quote = refl; key = ([] ∷ [], inl (refl, CharAt.quote refl refl refl), refl); colon = refl };
    element = record { behind = 125 ∷ t; inner = value_null levels (125 ∷ t); delimiter = refl };
  },
)

-- the members so far, and their entries
pub record Members (levels : ℕ) (entries : List (List ℕ × Value)) (w r : List ℕ) : Type 0 where
  pub members : List (List ℕ × Value)
  pub behind : Behind (MemberAt (ValueAt levels)) members w r
  pub entries_are : entries ≡ insert_all bytes_eq [] members

pub no_members : (levels : ℕ) (entries : List (List ℕ × Value)) (w : List ℕ) → entries ≡ [] → Members levels entries w w
no_members levels entries w e = record { members = []; behind = none_yet (MemberAt (ValueAt levels)) w; entries_are = e }

insert_more : (es xs : List (List ℕ × Value)) (x : List ℕ × Value) → insert_all bytes_eq es (xs ++ x ∷ []) ≡ insert_entry bytes_eq (insert_all bytes_eq es xs) x.0 x.1
insert_more es [] x = refl
insert_more es (y ∷ xs) x = insert_more (insert_entry bytes_eq es y.0 y.1) xs x

pub member_more : (levels : ℕ) (entries new : List (List ℕ × Value)) (k : List ℕ) (v : Value) (w r q : List ℕ) → Members levels entries w r → Found (Marked (MemberAt (ValueAt levels))) ((k, v), false) r q → new ≡ insert_entry bytes_eq entries k v → Members levels new w q
member_more levels entries new k v w r q s f e = record {
  members = s.members ++ (k, v) ∷ [];
  behind = one_more (MemberAt (ValueAt levels)) s.members (k, v) w r q s.behind f;
  entries_are = e ∙ ap (λ es. insert_entry bytes_eq es k v) s.entries_are ∙ sym (insert_more [] s.members (k, v));
}

entries_view : (levels : ℕ) → IsView (RunAt (MemberAt (ValueAt levels))) (EntriesAt levels) (insert_all bytes_eq [])
entries_view levels = record { to = λ members u t h. (members, h, refl); from = λ entries u t h. h }

pub member_last : (levels : ℕ) (entries new : List (List ℕ × Value)) (k : List ℕ) (v : Value) (w r q : List ℕ) → Members levels entries w r → Found (Marked (MemberAt (ValueAt levels))) ((k, v), true) r q → new ≡ insert_entry bytes_eq entries k v → Found (EntriesAt levels) new w q
member_last levels entries new k v w r q s f e =
    subst (λ es. Found (EntriesAt levels) es w q) (sym (e ∙ ap (λ es. insert_entry bytes_eq es k v) s.entries_are ∙ sym (insert_more [] s.members (k, v))))
    (found_view (RunAt (MemberAt (ValueAt levels))) (EntriesAt levels) (insert_all bytes_eq []) (entries_view levels) (s.members ++ (k, v) ∷ []) w q (last_part (MemberAt (ValueAt levels)) s.members (k, v) w r q s.behind f))

pub members_stop : (levels : ℕ) (entries : List (List ℕ × Value)) (w r : List ℕ) (e : Stop) → Members levels entries w r → Stopped (Marked (MemberAt (ValueAt levels))) r e → Stopped (EntriesAt levels) w e
members_stop levels entries w r e s h = stop_view (RunAt (MemberAt (ValueAt levels))) (EntriesAt levels) (insert_all bytes_eq []) (entries_view levels) Anything w e (stop_run (MemberAt (ValueAt levels)) (object_closing levels) s.members w r s.behind e h)

-- brackets
module _ {X : Type 0} (P : X → Bool → List ℕ → List ℕ → Type 0) (close : ℕ) (closes : is_blank close ≡ false) (blind : IsBlind (Marked P)) (no_close : (x : X) (last : Bool) (u t : List ℕ) → P x last (close ∷ u) t → ⊥) (some : (x : X) (last : Bool) (t : List ℕ) → P x last [] t → ⊥) where
  run_blind_at : (xs : List X) (u v t : List ℕ) → behind_blanks u ≡ behind_blanks v → RunAt P xs u t → RunAt P xs v t
  run_blind_at [] u v t e h = h
  run_blind_at (x ∷ xs) u v t e (inl (k, p)) = inl (k, blind (x, true) u v t e p)
  run_blind_at (x ∷ xs) u v t e (inr (m, p, k)) = inr (m, blind (x, false) u v m e p, k)

  run_blind : IsBlind (RunAt P)
  run_blind = λ xs u v t e h. run_blind_at xs u v t e h

  brackets_blind_at : (xs : List X) (u v t : List ℕ) → behind_blanks u ≡ behind_blanks v → BracketsAt P close xs u t → BracketsAt P close xs v t
  brackets_blind_at xs u v t e (BracketsAt.empty is h) = BracketsAt.empty is (sym e ∙ h)
  brackets_blind_at xs u v t e (BracketsAt.parts h) = BracketsAt.parts (run_blind_at xs u v t e h)

  brackets_blind : IsBlind (BracketsAt P close)
  brackets_blind = λ xs u v t e h. brackets_blind_at xs u v t e h

  run_no_close : (xs : List X) (u t : List ℕ) → RunAt P xs (close ∷ u) t → ⊥
  run_no_close [] u t h = h
  run_no_close (x ∷ xs) u t (inl (k, p)) = no_close x true u t p
  run_no_close (x ∷ xs) u t (inr (m, p, k)) = no_close x false u m p

  run_some : (xs : List X) (t : List ℕ) → RunAt P xs [] t → ⊥
  run_some [] t h = h
  run_some (x ∷ xs) t (inl (k, p)) = some x true t p
  run_some (x ∷ xs) t (inr (m, p, k)) = some x false m p

  empty_only : (ys : List X) (u t : List ℕ) → BracketsAt P close ys (close ∷ u) t → (ys ≡ []) × (t ≡ u)
  empty_only ys u t (BracketsAt.empty is h) = (is, rest_is close close u t (sym (no_blank close u closes) ∙ h))
  empty_only ys u t (BracketsAt.parts h) = absurd (run_no_close ys u t h)

  pub empty_found : (w rest after : List ℕ) → rest ≡ behind_blanks w → rest ≡ close ∷ after → Found (BracketsAt P close) [] w after
  empty_found w rest after e is = found_skipped (BracketsAt P close) brackets_blind [] w rest after (subst (Skips w) (sym e) (skips w)) (record {
    front = close ∷ [];
    parts = is;
    reads = λ u. BracketsAt.empty refl (no_blank close u closes);
    only = empty_only;
  })

  nothing_there : (ys : List X) (t : List ℕ) → BracketsAt P close ys [] t → ⊥
  nothing_there ys t (BracketsAt.empty is h) = nil_cons close t h
  nothing_there ys t (BracketsAt.parts h) = run_some ys t h

  pub brackets_short : (w rest : List ℕ) → rest ≡ behind_blanks w → rest ≡ [] → Shorts Anything (BracketsAt P close) w
  brackets_short w rest e is = stop_skipped (BracketsAt P close) brackets_blind w [] (subst (Skips w) (sym e ∙ is) (skips w)) stop.Short (record {
    begins = record { value = []; more = close ∷ []; reads = λ t h. BracketsAt.empty refl (no_blank close t closes) };
    none = nothing_there;
  })

  parts_of : (ys : List X) (c : ℕ) (k t : List ℕ) → is_blank c ≡ false → (c ≡ close → ⊥) → BracketsAt P close ys (c ∷ k) t → RunAt P ys (c ∷ k) t
  parts_of ys c k t n ne (BracketsAt.empty is h) = absurd (ne (first_is c close k t (sym (no_blank c k n) ∙ h)))
  parts_of ys c k t n ne (BracketsAt.parts h) = h

  parts_front : (xs : List X) (front r after u : List ℕ) (c : ℕ) → c ∷ after ≡ front ++ r → ((u : List ℕ) → RunAt P xs (front ++ u) u) → (k : List ℕ) × (front ++ u ≡ c ∷ k)
  parts_front xs [] r after u c e reads = absurd (run_some xs [] (reads []))
  parts_front xs (x ∷ front) r after u c e reads = (front ++ u, ap (λ v. v ∷ (front ++ u)) (first_is x c (front ++ r) after (sym e)))

  pub parts_found : (xs : List X) (w rest after r : List ℕ) (c : ℕ) → rest ≡ behind_blanks w → rest ≡ c ∷ after → (c ≡ close → ⊥) → Found (RunAt P) xs rest r → Found (BracketsAt P close) xs w r
  parts_found xs w rest after r c e is ne f =
      let s : Skips w rest = subst (Skips w) (sym e) (skips w) in
      let n : is_blank c ≡ false = tight_first c after (subst (λ v. behind_blanks v ≡ v) is s.tight) in
      found_skipped (BracketsAt P close) brackets_blind xs w rest r s (record {
        front = f.front;
        parts = f.parts;
        reads = λ u. BracketsAt.parts (f.reads u);
        only = λ ys u t h.
            let (k, at) = parts_front xs f.front r after u c (sym is ∙ f.parts) f.reads in
            f.only ys u t (subst (λ v. RunAt P ys v t) (sym at) (parts_of ys c k t n ne (subst (λ v. BracketsAt P close ys v t) at h)));
      })

  parts_view : (c : ℕ) → is_blank c ≡ false → (c ≡ close → ⊥) → IsViewAt (RunAt P) (BracketsAt P close) (λ xs. xs) c
  parts_view c n ne = record { to = λ xs u t h. BracketsAt.parts h; from = λ ys m t h. (ys, parts_of ys c m t n ne h, refl) }

  pub parts_stop : (w rest after : List ℕ) (c : ℕ) (e : Stop) → rest ≡ behind_blanks w → rest ≡ c ∷ after → (c ≡ close → ⊥) → Stopped (RunAt P) rest e → Stopped (BracketsAt P close) w e
  parts_stop w rest after c e is0 is ne h =
      let s : Skips w rest = subst (Skips w) (sym is0) (skips w) in
      let n : is_blank c ≡ false = tight_first c after (subst (λ v. behind_blanks v ≡ v) is s.tight) in
      stop_skipped (BracketsAt P close) brackets_blind w rest s e (stop_at (RunAt P) (BracketsAt P close) (λ xs. xs) c (parts_view c n ne) Anything rest after e is h)

element_no_close : (levels : ℕ) (x : Value) (last : Bool) (u t : List ℕ) → ElementAt (ValueAt levels) 93 x last (93 ∷ u) t → ⊥
element_no_close levels x last u t h = value_no_close levels x u h.behind h.inner

element_some : (levels : ℕ) (x : Value) (last : Bool) (t : List ℕ) → ElementAt (ValueAt levels) 93 x last [] t → ⊥
element_some levels x last t h = value_some levels x h.behind h.inner

member_no_close : (levels : ℕ) (x : List ℕ × Value) (last : Bool) (u t : List ℕ) → MemberAt (ValueAt levels) x last (125 ∷ u) t → ⊥
member_no_close levels x last u t h = let k = first_is 125 34 u h.key.quoted h.key.quote in omega (arith, k)

member_some : (levels : ℕ) (x : List ℕ × Value) (last : Bool) (t : List ℕ) → MemberAt (ValueAt levels) x last [] t → ⊥
member_some levels x last t h = nil_cons 34 h.key.quoted h.key.quote

member_blind : (levels : ℕ) → IsBlind (Marked (MemberAt (ValueAt levels)))
member_blind levels = λ x u v t e h. record { behind = h.behind; key = record { quoted = h.key.quoted; behind = h.key.behind; quote = sym e ∙ h.key.quote; key = h.key.key; colon = h.key.colon }; element = h.element }

list_view : (levels : ℕ) → IsView (BracketsAt (ElementAt (ValueAt levels) 93) 93) (ListAt levels) (λ items. value.List items)
list_view levels = record { to = λ items u t h. (items, h, refl); from = λ v u t h. h }

pub empty_list : (levels : ℕ) (w rest after : List ℕ) → rest ≡ behind_blanks w → rest ≡ 93 ∷ after → Found (ListAt levels) (value.List []) w after
empty_list levels w rest after e is =
    found_view (BracketsAt (ElementAt (ValueAt levels) 93) 93) (ListAt levels) (λ items. value.List items) (list_view levels) [] w after
    (empty_found (ElementAt (ValueAt levels) 93) 93 refl (element_blind levels 93) (element_no_close levels) (element_some levels) w rest after e is)

pub short_list : (levels : ℕ) (w rest : List ℕ) → rest ≡ behind_blanks w → rest ≡ [] → Shorts Anything (ListAt levels) w
short_list levels w rest e is =
    stop_view (BracketsAt (ElementAt (ValueAt levels) 93) 93) (ListAt levels) (λ items. value.List items) (list_view levels) Anything w stop.Short
    (brackets_short (ElementAt (ValueAt levels) 93) 93 refl (element_blind levels 93) (element_no_close levels) (element_some levels) w rest e is)

pub list_found : (levels : ℕ) (items : List Value) (w rest after r : List ℕ) (c : ℕ) → rest ≡ behind_blanks w → rest ≡ c ∷ after → (c ≡ 93 → ⊥) → Found (RunAt (ElementAt (ValueAt levels) 93)) items rest r → Found (ListAt levels) (value.List items) w r
list_found levels items w rest after r c e is ne f =
    found_view (BracketsAt (ElementAt (ValueAt levels) 93) 93) (ListAt levels) (λ items. value.List items) (list_view levels) items w r
    (parts_found (ElementAt (ValueAt levels) 93) 93 refl (element_blind levels 93) (element_no_close levels) (element_some levels) items w rest after r c e is ne f)

pub list_stop : (levels : ℕ) (w rest after : List ℕ) (c : ℕ) (e : Stop) → rest ≡ behind_blanks w → rest ≡ c ∷ after → (c ≡ 93 → ⊥) → Stopped (RunAt (ElementAt (ValueAt levels) 93)) rest e → Stopped (ListAt levels) w e
list_stop levels w rest after c e is0 is ne h =
    stop_view (BracketsAt (ElementAt (ValueAt levels) 93) 93) (ListAt levels) (λ items. value.List items) (list_view levels) Anything w e
    (parts_stop (ElementAt (ValueAt levels) 93) 93 refl (element_blind levels 93) (element_no_close levels) (element_some levels) w rest after c e is0 is ne h)

map_view : (levels : ℕ) → IsView (BracketsAt (MemberAt (ValueAt levels)) 125) (MapAt levels) (λ members. value.Map (pairs_of members))
map_view levels = record { to = λ members u t h. (members, h, refl); from = λ v u t h. h }

pub empty_map : (levels : ℕ) (w rest after : List ℕ) → rest ≡ behind_blanks w → rest ≡ 125 ∷ after → Found (MapAt levels) (value.Map []) w after
empty_map levels w rest after e is =
    found_view (BracketsAt (MemberAt (ValueAt levels)) 125) (MapAt levels) (λ members. value.Map (pairs_of members)) (map_view levels) [] w after
    (empty_found (MemberAt (ValueAt levels)) 125 refl (member_blind levels) (member_no_close levels) (member_some levels) w rest after e is)

pub short_map : (levels : ℕ) (w rest : List ℕ) → rest ≡ behind_blanks w → rest ≡ [] → Shorts Anything (MapAt levels) w
short_map levels w rest e is =
    stop_view (BracketsAt (MemberAt (ValueAt levels)) 125) (MapAt levels) (λ members. value.Map (pairs_of members)) (map_view levels) Anything w stop.Short
    (brackets_short (MemberAt (ValueAt levels)) 125 refl (member_blind levels) (member_no_close levels) (member_some levels) w rest e is)

map_blind : (levels : ℕ) → IsBlind (MapAt levels)
map_blind levels = λ v u w t e h. (h.0, brackets_blind_at (MemberAt (ValueAt levels)) 125 refl (member_blind levels) (member_no_close levels) (member_some levels) h.0 u w t e h.1, h.2)

entries_front_at : (levels : ℕ) (members : List (List ℕ × Value)) (front r after u : List ℕ) (c : ℕ) → c ∷ after ≡ front ++ r → RunAt (MemberAt (ValueAt levels)) members (front ++ []) [] → (k : List ℕ) × (front ++ u ≡ c ∷ k)
entries_front_at levels members [] r after u c e run = absurd (run_some (MemberAt (ValueAt levels)) 125 refl (member_blind levels) (member_no_close levels) (member_some levels) members [] run)
entries_front_at levels members (x ∷ front) r after u c e run = (front ++ u, ap (λ v. v ∷ (front ++ u)) (first_is x c (front ++ r) after (sym e)))

entries_front : (levels : ℕ) (entries : List (List ℕ × Value)) (front r after u : List ℕ) (c : ℕ) → c ∷ after ≡ front ++ r → ((u : List ℕ) → EntriesAt levels entries (front ++ u) u) → (k : List ℕ) × (front ++ u ≡ c ∷ k)
entries_front levels entries front r after u c e reads =
    let (members, run, is) = reads [] in
    entries_front_at levels members front r after u c e run

map_parts : (levels : ℕ) (v : Value) (c : ℕ) (k t : List ℕ) → is_blank c ≡ false → (c ≡ 125 → ⊥) → MapAt levels v (c ∷ k) t → (entries : List (List ℕ × Value)) × EntriesAt levels entries (c ∷ k) t × (v ≡ value.Map (map pair_of entries))
map_parts levels v c k t n ne (members, h, is) =
    (insert_all bytes_eq [] members, (members, parts_of (MemberAt (ValueAt levels)) 125 refl (member_blind levels) (member_no_close levels) (member_some levels) members c k t n ne h, refl), is)

entries_map : (levels : ℕ) (entries : List (List ℕ × Value)) (u t : List ℕ) → EntriesAt levels entries u t → MapAt levels (value.Map (map pair_of entries)) u t
entries_map levels entries u t (members, run, is) = (members, BracketsAt.parts run, ap (λ es. value.Map (map pair_of es)) is)

pub map_found : (levels : ℕ) (entries : List (List ℕ × Value)) (w rest after r : List ℕ) (c : ℕ) → rest ≡ behind_blanks w → rest ≡ c ∷ after → (c ≡ 125 → ⊥) → Found (EntriesAt levels) entries rest r → Found (MapAt levels) (value.Map (map pair_of entries)) w r
map_found levels entries w rest after r c e is ne f =
    let s : Skips w rest = subst (Skips w) (sym e) (skips w) in
    let n : is_blank c ≡ false = tight_first c after (subst (λ v. behind_blanks v ≡ v) is s.tight) in
    found_skipped (MapAt levels) (map_blind levels) (value.Map (map pair_of entries)) w rest r s (record {
      front = f.front;
      parts = f.parts;
      reads = λ u. entries_map levels entries (f.front ++ u) u (f.reads u);
      only = λ y u t h.
          let (k, at) = entries_front levels entries f.front r after u c (sym is ∙ f.parts) f.reads in
          let (es, run, is1) = map_parts levels y c k t n ne (subst (λ v. MapAt levels y v t) at h) in
          let (p, q) = f.only es u t (subst (λ v. EntriesAt levels es v t) (sym at) run) in
          (is1 ∙ ap (λ v. value.Map (map pair_of v)) p, q);
    })

map_of_entries : (levels c : ℕ) → is_blank c ≡ false → (c ≡ 125 → ⊥) → IsViewAt (EntriesAt levels) (MapAt levels) (λ entries. value.Map (map pair_of entries)) c
map_of_entries levels c n ne = record { to = λ entries u t h. entries_map levels entries u t h; from = λ y m t h. map_parts levels y c m t n ne h }

pub map_stop : (levels : ℕ) (w rest after : List ℕ) (c : ℕ) (e : Stop) → rest ≡ behind_blanks w → rest ≡ c ∷ after → (c ≡ 125 → ⊥) → Stopped (EntriesAt levels) rest e → Stopped (MapAt levels) w e
map_stop levels w rest after c e is0 is ne h =
    let s : Skips w rest = subst (Skips w) (sym is0) (skips w) in
    let n : is_blank c ≡ false = tight_first c after (subst (λ v. behind_blanks v ≡ v) is s.tight) in
    stop_skipped (MapAt levels) (map_blind levels) w rest s e (stop_at (EntriesAt levels) (MapAt levels) (λ entries. value.Map (map pair_of entries)) c (map_of_entries levels c n ne) Anything rest after e is h)

-- values by their first byte
list_only : (n : ℕ) (y : Value) (m t : List ℕ) → ValueAt (suc n) y (91 ∷ m) t → ListAt n y m t
list_only n y m t (NestAt.scalar h) = absurd (scalar_no_bracket y 91 m t (inl refl) h)
list_only n y m t (NestAt.list items k e h is) = (items, subst (λ v. BracketsAt (ElementAt (ValueAt n) 93) 93 items v t) (rest_is 91 91 m k e) h, is)
list_only n y m t (NestAt.object members k e h is) = let q = first_is 91 123 m k e in absurd (omega (arith, q))

map_only : (n : ℕ) (y : Value) (m t : List ℕ) → ValueAt (suc n) y (123 ∷ m) t → MapAt n y m t
map_only n y m t (NestAt.scalar h) = absurd (scalar_no_bracket y 123 m t (inr (inl refl)) h)
map_only n y m t (NestAt.list items k e h is) = let q = first_is 123 91 m k e in absurd (omega (arith, q))
map_only n y m t (NestAt.object members k e h is) = (members, subst (λ v. BracketsAt (MemberAt (ValueAt n)) 125 members v t) (rest_is 123 123 m k e) h, is)

list_make : (n : ℕ) (y : Value) (m t : List ℕ) → ListAt n y m t → ValueAt (suc n) y (91 ∷ m) t
list_make n y m t (items, h, is) = NestAt.list items m refl h is

map_make : (n : ℕ) (y : Value) (m t : List ℕ) → MapAt n y m t → ValueAt (suc n) y (123 ∷ m) t
map_make n y m t (members, h, is) = NestAt.object members m refl h is

-- what a byte and a part behind it make
module _ (R V : Value → List ℕ → List ℕ → Type 0) (b : ℕ) (make : (y : Value) (m t : List ℕ) → R y m t → V y (b ∷ m) t) (only : (y : Value) (m t : List ℕ) → V y (b ∷ m) t → R y m t) where
  value_behind : IsBehind R V (λ y. y) b
  value_behind = record { to = λ y u t h. make y u t h; from = λ y u t h. (y, only y u t h, refl) }

  behind_result : (w rest : List ℕ) (result : Result (Value × Bor (List ℕ)) Stop) → w ≡ b ∷ rest → MatchResult result (λ f. Found R f.0 rest f.1.now) (λ e. Stopped R rest e) → MatchResult result (λ f. FoundValue V f.0 w f.1.now) (λ e. StoppedBy BeginsNoDigit V w e)
  behind_result w rest (Ok f) e h = found_value V f.0 w f.1.now (found_behind R V (λ y. y) b value_behind f.0 w rest f.1.now e h)
  behind_result w rest (Err e) is h = stop_value V w e (stop_behind R V (λ y. y) b value_behind Anything w rest e is h)

pub list_value : (n : ℕ) (w rest : List ℕ) (result : Result (Value × Bor (List ℕ)) Stop) → w ≡ 91 ∷ rest → MatchResult result (λ f. Found (ListAt n) f.0 rest f.1.now) (λ e. Stopped (ListAt n) rest e) → MatchResult result (λ f. FoundValue (ValueAt (suc n)) f.0 w f.1.now) (λ e. StoppedBy BeginsNoDigit (ValueAt (suc n)) w e)
list_value n w rest result e h = behind_result (ListAt n) (ValueAt (suc n)) 91 (list_make n) (list_only n) w rest result e h

pub map_value : (n : ℕ) (w rest : List ℕ) (result : Result (Value × Bor (List ℕ)) Stop) → w ≡ 123 ∷ rest → MatchResult result (λ f. Found (MapAt n) f.0 rest f.1.now) (λ e. Stopped (MapAt n) rest e) → MatchResult result (λ f. FoundValue (ValueAt (suc n)) f.0 w f.1.now) (λ e. StoppedBy BeginsNoDigit (ValueAt (suc n)) w e)
map_value n w rest result e h = behind_result (MapAt n) (ValueAt (suc n)) 123 (map_make n) (map_only n) w rest result e h

-- a scalar, where no bracket stands
scalar_only : (n b : ℕ) (y : Value) (m t : List ℕ) → (b ≡ 91 → ⊥) → (b ≡ 123 → ⊥) → ValueAt (suc n) y (b ∷ m) t → ScalarAt y (b ∷ m) t
scalar_only n b y m t n1 n2 (NestAt.scalar h) = h
scalar_only n b y m t n1 n2 (NestAt.list items k e h is) = absurd (n1 (first_is b 91 m k e))
scalar_only n b y m t n1 n2 (NestAt.object members k e h is) = absurd (n2 (first_is b 123 m k e))

scalar_front : (x : Value) (front r after u : List ℕ) (c : ℕ) → c ∷ after ≡ front ++ r → ScalarAt x (front ++ []) [] → (k : List ℕ) × (front ++ u ≡ c ∷ k)
scalar_front x [] r after u c e h = absurd (scalar_some x [] h)
scalar_front x (z ∷ front) r after u c e h = (front ++ u, ap (λ v. v ∷ (front ++ u)) (first_is z c (front ++ r) after (sym e)))

scalar_value_found : (n b : ℕ) (x : Value) (w after r : List ℕ) → w ≡ b ∷ after → (b ≡ 91 → ⊥) → (b ≡ 123 → ⊥) → FoundValue ScalarAt x w r → FoundValue (ValueAt (suc n)) x w r
scalar_value_found n b x w after r e n1 n2 f = record {
  front = f.front;
  parts = f.parts;
  reads = λ u fits. NestAt.scalar (f.reads u fits);
  only = λ y u t fits h.
      let (k, at) = scalar_front x f.front r after u b (sym e ∙ f.parts) (f.reads [] (inl tt)) in
      f.only y u t fits (subst (λ v. ScalarAt y v t) (sym at) (scalar_only n b y k t n1 n2 (subst (λ v. ValueAt (suc n) y v t) at h)));
}

scalar_view : (n b : ℕ) → (b ≡ 91 → ⊥) → (b ≡ 123 → ⊥) → IsViewAt ScalarAt (ValueAt (suc n)) (λ y. y) b
scalar_view n b n1 n2 = record { to = λ y u t h. NestAt.scalar h; from = λ y m t h. (y, scalar_only n b y m t n1 n2 h, refl) }

pub scalar_value : (n b : ℕ) (w after : List ℕ) (result : Result (Value × Bor (List ℕ)) Stop) → w ≡ b ∷ after → (b ≡ 91 → ⊥) → (b ≡ 123 → ⊥) → MatchResult result (λ f. FoundValue ScalarAt f.0 w f.1.now) (λ e. StoppedBy BeginsNoDigit ScalarAt w e) → MatchResult result (λ f. FoundValue (ValueAt (suc n)) f.0 w f.1.now) (λ e. StoppedBy BeginsNoDigit (ValueAt (suc n)) w e)
scalar_value n b w after (Ok f) e n1 n2 h = scalar_value_found n b f.0 w after f.1.now e n1 n2 h
scalar_value n b w after (Err e) is n1 n2 h = stop_at ScalarAt (ValueAt (suc n)) (λ y. y) b (scalar_view n b n1 n2) BeginsNoDigit w after e is h

pub value_begins : (n : ℕ) → Begins BeginsNoDigit (ValueAt n) []
value_begins n = record { value = value.Nil; more = codes "null"; reads = λ t h. value_null n t }

pub with_mark : {X : Type 0} (P : X → Bool → List ℕ → List ℕ → Type 0) (x : X) (last mark : Bool) → last ≡ mark → (w r : List ℕ) → Found (Marked P) (x, last) w r → Found (Marked P) (x, mark) w r
with_mark P x last mark e w r f = subst (λ (v : Bool). Found (Marked P) (x, v) w r) e f

shorter_at : (front w r : List ℕ) → w ≡ front ++ r → (front ≡ [] → ⊥) → length r < length w
shorter_at [] w r e n = absurd (n refl)
shorter_at (x ∷ front) w r e n = omega (arith, ap length e, length-append front r)

element_nothing : (levels close : ℕ) (x : Value × Bool) (t : List ℕ) → ElementAt (ValueAt levels) close x.0 x.1 [] t → ⊥
element_nothing levels close x t h = value_some levels x.0 h.behind h.inner

key_nothing : (k t : List ℕ) → KeyAt k [] t → ⊥
key_nothing k t h = nil_cons 34 h.quoted h.quote

pub element_shorter : (levels close : ℕ) (x : Value × Bool) (w r : List ℕ) → Found (Marked (ElementAt (ValueAt levels) close)) x w r → length r < length w
element_shorter levels close x w r f = shorter_at f.front w r f.parts (λ e. element_nothing levels close x [] (subst (λ k. ElementAt (ValueAt levels) close x.0 x.1 (k ++ []) []) e (f.reads [])))

pub key_shorter : (k w r : List ℕ) → Found KeyAt k w r → length r < length w
key_shorter k w r f = shorter_at f.front w r f.parts (λ e. key_nothing k [] (subst (λ v. KeyAt k (v ++ []) []) e (f.reads [])))

pub no_entries : {A : Type 0} (es : List A) → length es ≡ 0 → es ≡ []
no_entries [] e = refl
no_entries (x ∷ es) e = absurd (omega arith)
