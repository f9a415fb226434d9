-- Whole texts, and their faults.
use Rattle.std.proofs.Common.{◌≡◌, ℕ, zero, suc, ◌≤◌, ◌+◌, ◌-◌, ◌==◌, Bool, true, false, if◌then◌else◌, List, [], ◌∷◌, ◌++◌, length, take, refl, sym, ◌∙◌, ap, subst, inl, inr, append_assoc, append-nil, length-append, arith, Result, Err, MatchResult}
use Rattle.std.proofs.lemmas.Bool.Decides.{nat_tests}
use Rattle.msgpack_codec.specs.declared.value.Value.{Value}
use Rattle.msgpack_codec.specs.declared.stop.Stop.{Stop}
use Rattle.msgpack_codec.specs.declared.stop.Stop.TheVariants as stop
use Rattle.std.specs.Prelude.{IsUtf8}
use Rattle.data_text.specs.declared.fault.DataError.{DataError}
use Rattle.data_text.specs.declared.fault.DataError.TheVariants as error
use Rattle.data_text.specs.Json.{is_blank, behind_blanks, BeginsNoDigit, ValueAt, Spells}
use Rattle.data_text.specs.Lines.{newlines, line_at, last_line, first_lines, CanGoOn, IsDeadLine, IsFault}
use Rattle.data_text.specs.Reading.{FoundValue, Begins, StoppedBy, Fits, EndsAt, StoppedText}
use Rattle.data_text.proofs.Spaces.{Skips, skips, no_blank, tight_first}
use Rattle.data_text.proofs.Nests.{value_tight, fits_self, fits_more, fits_byte, tight_front}

-- a value behind blanks
spells_at : (v : Value) (a z m : List ℕ) → ((u : List ℕ) → behind_blanks (a ++ u) ≡ behind_blanks u) → ValueAt 100 v z m → behind_blanks m ≡ [] → Spells v (a ++ z)
spells_at v a z m all h ends = record { behind = m; value = subst (λ k. ValueAt 100 v k m) (sym (all z ∙ value_tight 100 v z m h)) h; ends = ends }

pub whole_found : (v : Value) (text rest r : List ℕ) → rest ≡ behind_blanks text → FoundValue (ValueAt 100) v rest r → behind_blanks r ≡ [] → Spells v text
whole_found v text rest r e f ends = record { behind = r; value = subst (λ k. ValueAt 100 v k r) (sym f.parts ∙ e) (f.reads r (fits_self r)); ends = ends }

pub whole_only : (v : Value) (text rest r : List ℕ) → rest ≡ behind_blanks text → FoundValue (ValueAt 100) v rest r → (y : Value) → Spells y text → y ≡ v
whole_only v text rest r e f y s = (f.only y r s.behind (fits_self r) (subst (λ k. ValueAt 100 y k s.behind) (sym e ∙ f.parts) s.value)).0

nil_cons : (b : ℕ) (t : List ℕ) → b ∷ t ≡ [] → ⊥
nil_cons b t e = absurd (cc)

-- something behind the value
behind_dead : (c : ℕ) (k blanks u : List ℕ) → is_blank c ≡ false → ((u : List ℕ) → behind_blanks (blanks ++ u) ≡ behind_blanks u) → k ≡ blanks ++ c ∷ u → behind_blanks k ≡ [] → ⊥
behind_dead c k blanks u n all e h = nil_cons c u (sym (no_blank c u n) ∙ sym (all (c ∷ u)) ∙ sym (ap behind_blanks e) ∙ h)

three : (a b c u : List ℕ) → (a ++ (b ++ c)) ++ u ≡ a ++ (b ++ (c ++ u))
three a b c u = append_assoc a (b ++ c) u ∙ ap (λ k. a ++ k) (append_assoc b c u)

fits_blanks : (r blanks k : List ℕ) → r ≡ blanks ++ k → Fits r blanks
fits_blanks r blanks k e = subst (Fits r) (append-nil blanks) (fits_more r blanks k [] e tt)

blanks_end : (blanks : List ℕ) → ((u : List ℕ) → behind_blanks (blanks ++ u) ≡ behind_blanks u) → behind_blanks blanks ≡ []
blanks_end blanks all = sym (ap behind_blanks (append-nil blanks)) ∙ all []

whole_bad_at : (v : Value) (text rest r after : List ℕ) (c n : ℕ) → FoundValue (ValueAt 100) v rest r → n ≡ length (c ∷ after) → Skips text rest → Skips r (c ∷ after) → EndsAt text n
whole_bad_at v text rest r after c n f count s b = record {
  front = s.blanks ++ (f.front ++ b.blanks);
  byte = c;
  rest = after;
  parts = s.parts ∙ ap (λ k. s.blanks ++ k) (f.parts ∙ ap (λ k. f.front ++ k) b.parts) ∙ sym (three s.blanks f.front b.blanks (c ∷ after));
  count = count;
  begins = record {
    value = v;
    more = [];
    spelled = subst (Spells v) (sym (append-nil (s.blanks ++ (f.front ++ b.blanks))))
        (spells_at v s.blanks (f.front ++ b.blanks) b.blanks s.all (f.reads b.blanks (fits_blanks r b.blanks (c ∷ after) b.parts)) (blanks_end b.blanks b.all));
  };
  dead = λ y u h.
      let z = f.front ++ (b.blanks ++ c ∷ u) in
      let fits = fits_byte r b.blanks after u c b.parts in
      let same : behind_blanks ((s.blanks ++ (f.front ++ b.blanks)) ++ c ∷ u) ≡ f.front ++ (b.blanks ++ c ∷ u) =
      ap behind_blanks (three s.blanks f.front b.blanks (c ∷ u)) ∙ s.all (f.front ++ (b.blanks ++ c ∷ u)) ∙ value_tight 100 v (f.front ++ (b.blanks ++ c ∷ u)) (b.blanks ++ c ∷ u) (f.reads (b.blanks ++ c ∷ u) fits) in
      let (p, q) = f.only y (b.blanks ++ c ∷ u) h.behind fits (subst (λ k. ValueAt 100 y k h.behind) same h.value) in
      behind_dead c h.behind b.blanks u (tight_first c after b.tight) b.all q h.ends;
}

pub whole_bad : (v : Value) (text rest r after : List ℕ) (c n : ℕ) → rest ≡ behind_blanks text → FoundValue (ValueAt 100) v rest r → behind_blanks r ≡ c ∷ after → n ≡ length (c ∷ after) → EndsAt text n
whole_bad v text rest r after c n e f is count =
    let s : Skips text rest = subst (Skips text) (sym e) (skips text) in
    let b : Skips r (c ∷ after) = subst (Skips r) is (skips r) in
    whole_bad_at v text rest r after c n f count s b

begun_text : (a z : List ℕ) → ((u : List ℕ) → behind_blanks (a ++ u) ≡ behind_blanks u) → Begins BeginsNoDigit (ValueAt 100) z → CanGoOn (a ++ z)
begun_text a z all b = record {
  value = b.value;
  more = b.more;
  spelled = subst (Spells b.value) (sym (append_assoc a z b.more))
      (spells_at b.value a (z ++ b.more) [] all (subst (λ k. ValueAt 100 b.value (z ++ k) []) (append-nil b.more) (b.reads [] tt)) refl);
}

whole_stop_at : (text rest : List ℕ) (e : Stop) → rest ≡ behind_blanks text → Skips text rest → StoppedBy BeginsNoDigit (ValueAt 100) rest e → StoppedText text e
whole_stop_at text rest stop.Short is s b =
    (subst CanGoOn (sym s.parts) (begun_text s.blanks rest s.all b.begins), λ y h. b.none y h.behind (subst (λ k. ValueAt 100 y k h.behind) (sym is) h.value))
whole_stop_at text rest (stop.Bad left) is s b = record {
  front = s.blanks ++ b.front;
  byte = b.byte;
  rest = b.rest;
  parts = s.parts ∙ ap (λ k. s.blanks ++ k) b.parts ∙ sym (append_assoc s.blanks b.front (b.byte ∷ b.rest));
  count = b.count;
  begins = begun_text s.blanks b.front s.all b.begins;
  dead = λ y u h.
      let same : behind_blanks ((s.blanks ++ b.front) ++ b.byte ∷ u) ≡ b.front ++ b.byte ∷ u =
      ap behind_blanks (append_assoc s.blanks b.front (b.byte ∷ u)) ∙ s.all (b.front ++ b.byte ∷ u) ∙ tight_front b.front b.rest u b.byte (ap behind_blanks (sym b.parts) ∙ s.tight ∙ b.parts) in
      b.dead y u h.behind (subst (λ k. ValueAt 100 y k h.behind) same h.value);
}
whole_stop_at text rest stop.NoMemory is s b = tt

pub whole_stop : (text rest : List ℕ) (e : Stop) → rest ≡ behind_blanks text → StoppedBy BeginsNoDigit (ValueAt 100) rest e → StoppedText text e
whole_stop text rest e is h = whole_stop_at text rest e is (subst (Skips text) (sym is) (skips text)) h

-- the line of the byte with which a text can go on no more
lines_step : (b : ℕ) (front u : List ℕ) (n : ℕ) (newline : Bool) → (b == 10) ≡ newline → suc n ≤ newlines (b ∷ front) → ((m : ℕ) → m ≤ newlines front → (e : List ℕ) × (front ≡ first_lines m (front ++ u) ++ e))
    → (e : List ℕ) × (b ∷ front ≡ first_lines (suc n) (b ∷ (front ++ u)) ++ e)
lines_step b front u n true e h more =
    let count : newlines (b ∷ front) ≡ 1 + newlines front = ap (λ (v : Bool). (if v then 1 else 0) + newlines front) e in
    let (k, p) = more n (omega arith) in
    (k, ap (λ v. b ∷ v) p ∙ ap (λ (v : Bool). (b ∷ (if v then first_lines n (front ++ u) else first_lines (suc n) (front ++ u))) ++ k) (sym e))
lines_step b front u n false e h more =
    let count : newlines (b ∷ front) ≡ 0 + newlines front = ap (λ (v : Bool). (if v then 1 else 0) + newlines front) e in
    let (k, p) = more (suc n) (omega arith) in
    (k, ap (λ v. b ∷ v) p ∙ ap (λ (v : Bool). (b ∷ (if v then first_lines n (front ++ u) else first_lines (suc n) (front ++ u))) ++ k) (sym e))

lines_front : (front u : List ℕ) (n : ℕ) → n ≤ newlines front → (e : List ℕ) × (front ≡ first_lines n (front ++ u) ++ e)
lines_front [] u zero h = ([], refl)
lines_front [] u (suc n) h = absurd (omega arith)
lines_front (b ∷ front) u zero h = (b ∷ front, refl)
lines_front (b ∷ front) u (suc n) h = lines_step b front u n (b == 10) refl h (λ m k. lines_front front u m k)

through_step : (x : ℕ) (front rest : List ℕ) (b : ℕ) (newline : Bool) → (x == 10) ≡ newline → (u : List ℕ) → first_lines (newlines front + 1) (front ++ b ∷ rest) ≡ front ++ b ∷ u
    → first_lines (newlines (x ∷ front) + 1) (x ∷ (front ++ b ∷ rest)) ≡ x ∷ (front ++ b ∷ u)
through_step x front rest b true e u p =
    let count : newlines (x ∷ front) ≡ 1 + newlines front = ap (λ (v : Bool). (if v then 1 else 0) + newlines front) e in
    let next : newlines (x ∷ front) + 1 ≡ suc (newlines front + 1) = omega (arith, count) in
    ap (λ k. first_lines k (x ∷ (front ++ b ∷ rest))) next ∙ ap (λ (v : Bool). x ∷ (if v then first_lines (newlines front + 1) (front ++ b ∷ rest) else first_lines (suc (newlines front + 1)) (front ++ b ∷ rest))) e ∙ ap (λ v. x ∷ v) p
through_step x front rest b false e u p =
    let count : newlines (x ∷ front) ≡ 0 + newlines front = ap (λ (v : Bool). (if v then 1 else 0) + newlines front) e in
    let next : newlines (x ∷ front) + 1 ≡ suc (newlines front) = omega (arith, count) in
    let same : suc (newlines front) ≡ newlines front + 1 = omega arith in
    ap (λ k. first_lines k (x ∷ (front ++ b ∷ rest))) next ∙ ap (λ (v : Bool). x ∷ (if v then first_lines (newlines front) (front ++ b ∷ rest) else first_lines (suc (newlines front)) (front ++ b ∷ rest))) e
    ∙ ap (λ k. x ∷ first_lines k (front ++ b ∷ rest)) same ∙ ap (λ v. x ∷ v) p

lines_through : (front rest : List ℕ) (b : ℕ) → (u : List ℕ) × (first_lines (newlines front + 1) (front ++ b ∷ rest) ≡ front ++ b ∷ u)
lines_through [] rest b = ((if b == 10 then first_lines 0 rest else first_lines 1 rest), refl)
lines_through (x ∷ front) rest b = let (u, p) = lines_through front rest b in (u, through_step x front rest b (x == 10) refl u p)

take_front : (front back : List ℕ) → take (length front) (front ++ back) ≡ front
take_front [] back = refl
take_front (x ∷ front) back = ap (λ k. x ∷ k) (take_front front back)

dead_line : (text : List ℕ) (line : ℕ) (front rest : List ℕ) (b : ℕ) → text ≡ front ++ b ∷ rest → line ≡ newlines front + 1 → CanGoOn front → ((y : Value) (u : List ℕ) → Spells y (front ++ b ∷ u) → ⊥) → IsDeadLine text line
dead_line text line front rest b e is begins dead = record {
  dead = λ g.
      let (u, p) = lines_through front rest b in
      let same : first_lines line text ≡ front ++ b ∷ u = ap (λ k. first_lines k text) is ∙ ap (first_lines (newlines front + 1)) e ∙ p in
      dead g.value (u ++ g.more) (subst (Spells g.value) (ap (λ k. k ++ g.more) same ∙ append_assoc front (b ∷ u) g.more) g.spelled);
  before = λ n h.
      let (k, p) = lines_front front (b ∷ rest) n (omega arith) in
      let same : front ≡ first_lines n text ++ k = p ∙ ap (λ v. first_lines n v ++ k) (sym e) in
      record {
        value = begins.value;
        more = k ++ begins.more;
        spelled = subst (Spells begins.value) (ap (λ v. v ++ begins.more) same ∙ append_assoc (first_lines n text) k begins.more) begins.spelled;
      };
}

pub ends_line : (text : List ℕ) (left : ℕ) → EndsAt text left → IsDeadLine text (line_at text (length text - left))
ends_line text left s =
    let whole : length text ≡ length s.front + left = ap length s.parts ∙ length-append s.front (s.byte ∷ s.rest) ∙ ap (λ k. length s.front + k) (sym s.count) in
    let place : length text - left ≡ length s.front = omega (arith, whole) in
    let front : take (length text - left) text ≡ s.front = ap (λ k. take k text) place ∙ ap (take (length s.front)) s.parts ∙ take_front s.front (s.byte ∷ s.rest) in
    dead_line text (line_at text (length text - left)) s.front s.rest s.byte s.parts (ap (λ k. newlines k + 1) front) s.begins s.dead

pub ends_within : (text : List ℕ) (left : ℕ) → EndsAt text left → left ≤ length text
ends_within text left s = omega (arith, ap length s.parts, s.count, length-append s.front (s.byte ∷ s.rest))

pub ends_none : (text : List ℕ) (left : ℕ) → EndsAt text left → (y : Value) → Spells y text → ⊥
ends_none text left s y h = s.dead y s.rest (subst (Spells y) s.parts h)

is_none : (n : ℕ) → true ≡ (n == 0) → n ≡ 0
is_none n h = grind (arith, nat_tests)

is_some : (n : ℕ) → false ≡ (n == 0) → n ≡ 0 → ⊥
is_some n h e = grind (arith, nat_tests)

pub no_rest : (rest : List ℕ) → true ≡ (length rest == 0) → rest ≡ []
no_rest [] h = refl
no_rest (x ∷ rest) h = let k = is_none (length (x ∷ rest)) h in absurd (omega arith)

pub whole_rest : (v : Value) (text rest r rest2 : List ℕ) → rest ≡ behind_blanks text → FoundValue (ValueAt 100) v rest r → rest2 ≡ behind_blanks r → false ≡ (length rest2 == 0) → EndsAt text (length rest2)
whole_rest v text rest r [] e f is h = absurd (is_some 0 h refl)
whole_rest v text rest r (c ∷ after) e f is h = whole_bad v text rest r after c (length (c ∷ after)) e f (sym is) refl

pub stopped_whole : (Good : Value → Type 0) (Why : Stop → Type 0) (result : Result Value Stop) (e : Stop) → result ≡ Err e → Why e → MatchResult result Good Why
stopped_whole Good Why result e is h = subst (λ (r : Result Value Stop). MatchResult r Good Why) (sym is) h

pub short_fault : (text : List ℕ) (e : DataError) (line : ℕ) → length text ≤ 4194304 → IsUtf8 text → e ≡ error.Fault (record { line = line }) → line ≡ last_line text → StoppedText text stop.Short → IsFault text e
short_fault text e line short utf8 is at s =
    subst (IsFault text) (sym is) ((λ v h. s.1 v h.spelled), inr (inr (short, utf8, inr (s.0, at))))

pub bad_fault : (text : List ℕ) (e : DataError) (line left : ℕ) → length text ≤ 4194304 → IsUtf8 text → e ≡ error.Fault (record { line = line }) → line ≡ line_at text (length text - left) → StoppedText text (stop.Bad left) → IsFault text e
bad_fault text e line left short utf8 is at s =
    subst (IsFault text) (sym is) ((λ v h. ends_none text left s v h.spelled), inr (inr (short, utf8, inl (subst (IsDeadLine text) (sym at) (ends_line text left s)))))
