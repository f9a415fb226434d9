-- A head is its first byte, and what the form of this byte asks for.
use Rattle.std.proofs.Common.{◌≡◌, ℕ, ◌+◌, ◌-◌, ◌^◌, ◌<◌, ◌≤◌, Bool, true, false, cond, nat_lt, nat_eq, pos, negsuc, List, [], ◌∷◌, refl, sym, ◌∙◌, ap, subst, ◌⊎◌, inl, inr, arith}
use Rattle.std.proofs.Math.Nat.{div-eq_of_lt, mod-eq_of_lt}
use Rattle.std.proofs.lemmas.Bool.{cases_lt}
use Rattle.std.proofs.lemmas.Bool.Decides.{nat_tests}
use Rattle.std.specs.Int.{bytes_high_first}
use Rattle.msgpack_codec.specs.declared.heads.Head.{Head}
use Rattle.msgpack_codec.specs.declared.heads.Head.TheVariants as head
use Rattle.msgpack_codec.specs.declared.heads.Kind.{Kind}
use Rattle.msgpack_codec.specs.declared.heads.Kind.TheVariants as kind
use Rattle.msgpack_codec.specs.declared.heads.Form.{Form}
use Rattle.msgpack_codec.specs.declared.heads.Form.TheVariants as form
use Rattle.msgpack_codec.specs.Message.{counted, natural, negative, str_head, sym_head, list_head, map_head}
use Rattle.msgpack_codec.specs.Heads.{head_bytes, IsHead, is_fixed, head_with, Follows, form_of, middle_form, is_nest_head, is_nest_kind, is_nest_form, IsSoundForm}
use Rattle.msgpack_codec.proofs.Rows.{natural_fix, natural_8, natural_16, natural_32, natural_64, negative_fix, negative_8, negative_16, negative_32, negative_64, str_fix, str_8, str_16, str_32, sym_8, sym_16, sym_32, list_fix, list_16, list_32, map_fix, map_16, map_32}

-- a head, split
pub record HeadSplit (h : Head) : Type 0 where
  pub byte : ℕ
  pub rest : List ℕ
  pub is : head_bytes h ≡ byte ∷ rest
  pub small : byte < 256
  pub follows : Follows (form_of byte) h rest

form_low : (b : ℕ) → b < 0x80 → form_of b ≡ form.Whole (head.Int (pos b))
unfolding form_of
form_low b h = grind (arith, nat_tests)

form_map : (b : ℕ) → 0x80 ≤ b → b < 0x90 → form_of b ≡ form.Whole (head.Map (b - 0x80))
unfolding form_of
form_map b h k = grind (arith, nat_tests)

form_list : (b : ℕ) → 0x90 ≤ b → b < 0xa0 → form_of b ≡ form.Whole (head.List (b - 0x90))
unfolding form_of
form_list b h k = grind (arith, nat_tests)

form_str : (b : ℕ) → 0xa0 ≤ b → b < 0xc0 → form_of b ≡ form.Whole (head.Str (b - 0xa0))
unfolding form_of
form_str b h k = grind (arith, nat_tests)

form_middle : (b : ℕ) → 0xc0 ≤ b → b < 0xe0 → form_of b ≡ middle_form b
unfolding form_of
form_middle b h k = grind (arith, nat_tests)

form_high : (b : ℕ) → 0xe0 ≤ b → form_of b ≡ form.Whole (head.Int (negsuc (0xff - b)))
unfolding form_of
form_high b h = grind (arith, nat_tests)

whole_split : (h g : Head) (b : ℕ) → b < 256 → form_of b ≡ form.Whole g → head_bytes h ≡ b ∷ [] → h ≡ g → HeadSplit h
whole_split h g b small is bytes same = record {
  byte = b;
  rest = [];
  is = bytes;
  small = small;
  follows = subst (λ f. Follows f h []) (sym is) (same, refl);
}

counted_split : (h : Head) (first size n low high : ℕ) (k : Kind) → first < 256 → form_of first ≡ form.Counted k size low high
    → head_bytes h ≡ counted first size n → n < 256 ^ size → low ≤ n → n ≤ high → h ≡ head_with k n → HeadSplit h
counted_split h first size n low high k small is bytes fits above below same = record {
  byte = first;
  rest = bytes_high_first size n;
  is = bytes;
  small = small;
  follows = subst (λ f. Follows f h (bytes_high_first size n)) (sym is)
      (n, record { front_is = div-eq_of_lt fits; at_least = above; at_most = below; bytes_are = refl }, same);
}

pub natural_split : (n : ℕ) → n < 2 ^ 63 → HeadSplit (head.Int (pos n))
unfolding form_of middle_form
natural_split n fits =
    elim (cases_lt n (2 ^ 7)) [
      | inl h ↦ whole_split (head.Int (pos n)) (head.Int (pos n)) n (omega arith) (form_low n h) (natural_fix n h) refl
      | inr h ↦ elim (cases_lt n (2 ^ 8)) [
        | inl k ↦ counted_split (head.Int (pos n)) 0xcc 1 (n) 0x80 0xff (kind.Natural) (omega arith) refl (natural_8 n h k) (omega arith) (omega arith) (omega arith) refl
        | inr k ↦ elim (cases_lt n (2 ^ 16)) [
          | inl l ↦ counted_split (head.Int (pos n)) 0xcd 2 (n) 0x100 0xffff (kind.Natural) (omega arith) refl (natural_16 n k l) (omega arith) (omega arith) (omega arith) refl
          | inr l ↦ elim (cases_lt n (2 ^ 32)) [
            | inl m ↦ counted_split (head.Int (pos n)) 0xce 4 (n) 0x1_0000 0xffff_ffff (kind.Natural) (omega arith) refl (natural_32 n l m) (omega arith) (omega arith) (omega arith) refl
            | inr m ↦ counted_split (head.Int (pos n)) 0xcf 8 (n) 0x1_0000_0000 0x7fff_ffff_ffff_ffff (kind.Natural) (omega arith) refl (natural_64 n m) (omega arith) (omega arith) (omega arith) refl
          ]
        ]
      ]
    ]

pub negative_split : (n : ℕ) → n < 2 ^ 63 → HeadSplit (head.Int (negsuc n))
unfolding form_of middle_form
negative_split n fits =
    elim (cases_lt n (2 ^ 5)) [
      | inl h ↦ whole_split (head.Int (negsuc n)) (head.Int (negsuc (0xff - (0xff - n)))) (0xff - n) (omega arith) (form_high (0xff - n) (omega arith)) (negative_fix n h) (ap (λ v. head.Int (negsuc v)) (let e : n ≡ 0xff - (0xff - n) = omega arith in e))
      | inr h ↦ elim (cases_lt n (2 ^ 7)) [
        | inl k ↦ counted_split (head.Int (negsuc n)) 0xd0 1 (0xff - n) 0x80 0xdf (kind.Negative 0xff) (omega arith) refl (negative_8 n h k) (omega arith) (omega arith) (omega arith) (ap (λ v. head.Int (negsuc v)) (let e : n ≡ 0xff - (0xff - n) = omega arith in e))
        | inr k ↦ elim (cases_lt n (2 ^ 15)) [
          | inl l ↦ counted_split (head.Int (negsuc n)) 0xd1 2 (0xffff - n) 0x8000 0xff7f (kind.Negative 0xffff) (omega arith) refl (negative_16 n k l) (omega arith) (omega arith) (omega arith) (ap (λ v. head.Int (negsuc v)) (let e : n ≡ 0xffff - (0xffff - n) = omega arith in e))
          | inr l ↦ elim (cases_lt n (2 ^ 31)) [
            | inl m ↦ counted_split (head.Int (negsuc n)) 0xd2 4 (0xffff_ffff - n) 0x8000_0000 0xffff_7fff (kind.Negative 0xffff_ffff) (omega arith) refl (negative_32 n l m) (omega arith) (omega arith) (omega arith) (ap (λ v. head.Int (negsuc v)) (let e : n ≡ 0xffff_ffff - (0xffff_ffff - n) = omega arith in e))
            | inr m ↦ counted_split (head.Int (negsuc n)) 0xd3 8 (0xffff_ffff_ffff_ffff - n) 0x8000_0000_0000_0000 0xffff_ffff_7fff_ffff (kind.Negative 0xffff_ffff_ffff_ffff) (omega arith) refl (negative_64 n m) (omega arith) (omega arith) (omega arith) (ap (λ v. head.Int (negsuc v)) (let e : n ≡ 0xffff_ffff_ffff_ffff - (0xffff_ffff_ffff_ffff - n) = omega arith in e))
          ]
        ]
      ]
    ]

pub str_split : (n : ℕ) → n < 2 ^ 32 → HeadSplit (head.Str n)
unfolding form_of middle_form
str_split n fits =
    elim (cases_lt n (2 ^ 5)) [
      | inl h ↦ whole_split (head.Str n) (head.Str (0xa0 + n - 0xa0)) (0xa0 + n) (omega arith) (form_str (0xa0 + n) (omega arith) (omega arith)) (str_fix n h) (ap head.Str (let e : n ≡ 0xa0 + n - 0xa0 = omega arith in e))
      | inr h ↦ elim (cases_lt n (2 ^ 8)) [
        | inl k ↦ counted_split (head.Str n) 0xd9 1 (n) 0x20 0xff (kind.Str) (omega arith) refl (str_8 n h k) (omega arith) (omega arith) (omega arith) refl
        | inr k ↦ elim (cases_lt n (2 ^ 16)) [
          | inl l ↦ counted_split (head.Str n) 0xda 2 (n) 0x100 0xffff (kind.Str) (omega arith) refl (str_16 n k l) (omega arith) (omega arith) (omega arith) refl
          | inr l ↦ counted_split (head.Str n) 0xdb 4 (n) 0x1_0000 0xffff_ffff (kind.Str) (omega arith) refl (str_32 n l) (omega arith) (omega arith) (omega arith) refl
        ]
      ]
    ]

pub list_split : (n : ℕ) → n < 2 ^ 32 → HeadSplit (head.List n)
unfolding form_of middle_form
list_split n fits =
    elim (cases_lt n (2 ^ 4)) [
      | inl h ↦ whole_split (head.List n) (head.List (0x90 + n - 0x90)) (0x90 + n) (omega arith) (form_list (0x90 + n) (omega arith) (omega arith)) (list_fix n h) (ap head.List (let e : n ≡ 0x90 + n - 0x90 = omega arith in e))
      | inr h ↦ elim (cases_lt n (2 ^ 16)) [
        | inl k ↦ counted_split (head.List n) 0xdc 2 (n) 0x10 0xffff (kind.List) (omega arith) refl (list_16 n h k) (omega arith) (omega arith) (omega arith) refl
        | inr k ↦ counted_split (head.List n) 0xdd 4 (n) 0x1_0000 0xffff_ffff (kind.List) (omega arith) refl (list_32 n k) (omega arith) (omega arith) (omega arith) refl
      ]
    ]

pub map_split : (n : ℕ) → n < 2 ^ 32 → HeadSplit (head.Map n)
unfolding form_of middle_form
map_split n fits =
    elim (cases_lt n (2 ^ 4)) [
      | inl h ↦ whole_split (head.Map n) (head.Map (0x80 + n - 0x80)) (0x80 + n) (omega arith) (form_map (0x80 + n) (omega arith) (omega arith)) (map_fix n h) (ap head.Map (let e : n ≡ 0x80 + n - 0x80 = omega arith in e))
      | inr h ↦ elim (cases_lt n (2 ^ 16)) [
        | inl k ↦ counted_split (head.Map n) 0xde 2 (n) 0x10 0xffff (kind.Map) (omega arith) refl (map_16 n h k) (omega arith) (omega arith) (omega arith) refl
        | inr k ↦ counted_split (head.Map n) 0xdf 4 (n) 0x1_0000 0xffff_ffff (kind.Map) (omega arith) refl (map_32 n k) (omega arith) (omega arith) (omega arith) refl
      ]
    ]

-- a test, and the number for which it holds
fixed_cases : (n : ℕ) → (is_fixed n ≡ false) ⊎ ((n ≡ 1) ⊎ ((n ≡ 2) ⊎ ((n ≡ 4) ⊎ ((n ≡ 8) ⊎ (n ≡ 16)))))
fixed_cases n = grind (arith, nat_tests)

pub sym_split : (n : ℕ) → n < 2 ^ 32 → HeadSplit (head.Sym n)
unfolding form_of middle_form sym_head
sym_split n fits =
    elim (cases_lt n (2 ^ 8)) [
      | inl h ↦ elim (fixed_cases n) [
        | inl f ↦ record { byte = 0xc7; rest = n ∷ []; is = sym_8 n f h ∙ ap (λ v. 0xc7 ∷ v ∷ []) (mod-eq_of_lt h); small = omega arith; follows = (n, h, f, refl, refl) }
        | inr (inl e) ↦ subst (λ m. HeadSplit (head.Sym m)) (sym e) (whole_split (head.Sym 1) (head.Sym 1) 0xd4 (omega arith) refl refl refl)
        | inr (inr (inl e)) ↦ subst (λ m. HeadSplit (head.Sym m)) (sym e) (whole_split (head.Sym 2) (head.Sym 2) 0xd5 (omega arith) refl refl refl)
        | inr (inr (inr (inl e))) ↦ subst (λ m. HeadSplit (head.Sym m)) (sym e) (whole_split (head.Sym 4) (head.Sym 4) 0xd6 (omega arith) refl refl refl)
        | inr (inr (inr (inr (inl e)))) ↦ subst (λ m. HeadSplit (head.Sym m)) (sym e) (whole_split (head.Sym 8) (head.Sym 8) 0xd7 (omega arith) refl refl refl)
        | inr (inr (inr (inr (inr e)))) ↦ subst (λ m. HeadSplit (head.Sym m)) (sym e) (whole_split (head.Sym 16) (head.Sym 16) 0xd8 (omega arith) refl refl refl)
      ]
      | inr h ↦ elim (cases_lt n (2 ^ 16)) [
        | inl k ↦ counted_split (head.Sym n) 0xc8 2 (n) 0x100 0xffff (kind.Sym) (omega arith) refl (sym_16 n h k) (omega arith) (omega arith) (omega arith) refl
        | inr k ↦ counted_split (head.Sym n) 0xc9 4 (n) 0x1_0000 0xffff_ffff (kind.Sym) (omega arith) refl (sym_32 n k) (omega arith) (omega arith) (omega arith) refl
      ]
    ]

pub head_split : (h : Head) → IsHead h → HeadSplit h
unfolding form_of middle_form
head_split (head.Nil) fits = whole_split head.Nil head.Nil 0xc0 (omega arith) refl refl refl
head_split (head.Bool true) fits = whole_split (head.Bool true) (head.Bool true) 0xc3 (omega arith) refl refl refl
head_split (head.Bool false) fits = whole_split (head.Bool false) (head.Bool false) 0xc2 (omega arith) refl refl refl
head_split (head.Int (pos n)) fits = natural_split n fits
head_split (head.Int (negsuc n)) fits = negative_split n fits
head_split (head.Str n) fits = str_split n fits
head_split (head.Sym n) fits = sym_split n fits
head_split (head.List n) fits = list_split n fits
head_split (head.Map n) fits = map_split n fits

-- a head whose first byte is b
pub record HeadFrom (b : ℕ) (h : Head) (bytes : List ℕ) : Type 0 where
  pub fits : IsHead h
  pub is : head_bytes h ≡ b ∷ bytes

choose : {G : Type 0} (h : Head) (s : List ℕ) (t : Bool) (A B : Form) → (t ≡ true → Follows A h s → G) → (t ≡ false → Follows B h s → G) → Follows (cond t A B) h s → G
choose h s true A B f g r = f refl r
choose h s false A B f g r = g refl r

whole_from : (b : ℕ) (h : Head) (s : List ℕ) (g : Head) → IsHead g → head_bytes g ≡ b ∷ [] → Follows (form.Whole g) h s → HeadFrom b h s
whole_from b h s g fits is (same, none) = record {
  fits = subst IsHead (sym same) fits;
  is = ap head_bytes same ∙ is ∙ ap (λ v. b ∷ v) (sym none);
}

counted_from : (b : ℕ) (h : Head) (s : List ℕ) (k : Kind) (size low high : ℕ)
    → ((n : ℕ) → low ≤ n → n ≤ high → IsHead (head_with k n) × (head_bytes (head_with k n) ≡ counted b size n))
    → Follows (form.Counted k size low high) h s → HeadFrom b h s
counted_from b h s k size low high all (n, num, same) =
    let one = all n num.at_least num.at_most in
    record {
      fits = subst IsHead (sym same) one.0;
      is = ap head_bytes same ∙ one.1 ∙ ap (λ v. b ∷ v) (sym num.bytes_are);
    }

short_from : (h : Head) (s : List ℕ) → Follows form.ShortSymbol h s → HeadFrom 0xc7 h s
short_from h s (n, small, free, same, is) = record {
  fits = subst IsHead (sym same) (omega arith);
  is = ap head_bytes same ∙ sym_8 n free small ∙ ap (λ v. 0xc7 ∷ v ∷ []) (mod-eq_of_lt small) ∙ ap (λ v. 0xc7 ∷ v) (sym is);
}

at_byte : (b c : ℕ) (h : Head) (s : List ℕ) → nat_eq b c ≡ true → HeadFrom c h s → HeadFrom b h s
at_byte b c h s e k = let same : b ≡ c = grind (arith, nat_tests) in subst (λ v. HeadFrom v h s) (sym same) k

middle_from : (b : ℕ) (h : Head) (s : List ℕ) → Follows (middle_form b) h s → HeadFrom b h s
unfolding middle_form natural negative str_head sym_head list_head map_head
middle_from b h s =
    choose h s (nat_eq b 0xc0) _ _ (λ e r. at_byte b 0xc0 h s e (whole_from 0xc0 h s head.Nil tt refl r)) (λ _.
    choose h s (nat_eq b 0xc2) _ _ (λ e r. at_byte b 0xc2 h s e (whole_from 0xc2 h s (head.Bool false) tt refl r)) (λ _.
    choose h s (nat_eq b 0xc3) _ _ (λ e r. at_byte b 0xc3 h s e (whole_from 0xc3 h s (head.Bool true) tt refl r)) (λ _.
    choose h s (nat_eq b 0xc7) _ _ (λ e r. at_byte b 0xc7 h s e (short_from h s r)) (λ _.
    choose h s (nat_eq b 0xc8) _ _ (λ e r. at_byte b 0xc8 h s e (counted_from 0xc8 h s (kind.Sym) 2 0x100 0xffff (λ n low high. (omega arith, sym_16 n (omega arith) (omega arith))) r)) (λ _.
    choose h s (nat_eq b 0xc9) _ _ (λ e r. at_byte b 0xc9 h s e (counted_from 0xc9 h s (kind.Sym) 4 0x1_0000 0xffff_ffff (λ n low high. (omega arith, sym_32 n (omega arith))) r)) (λ _.
    choose h s (nat_eq b 0xcc) _ _ (λ e r. at_byte b 0xcc h s e (counted_from 0xcc h s (kind.Natural) 1 0x80 0xff (λ n low high. (omega arith, natural_8 n (omega arith) (omega arith))) r)) (λ _.
    choose h s (nat_eq b 0xcd) _ _ (λ e r. at_byte b 0xcd h s e (counted_from 0xcd h s (kind.Natural) 2 0x100 0xffff (λ n low high. (omega arith, natural_16 n (omega arith) (omega arith))) r)) (λ _.
    choose h s (nat_eq b 0xce) _ _ (λ e r. at_byte b 0xce h s e (counted_from 0xce h s (kind.Natural) 4 0x1_0000 0xffff_ffff (λ n low high. (omega arith, natural_32 n (omega arith) (omega arith))) r)) (λ _.
    choose h s (nat_eq b 0xcf) _ _ (λ e r. at_byte b 0xcf h s e (counted_from 0xcf h s (kind.Natural) 8 0x1_0000_0000 0x7fff_ffff_ffff_ffff (λ n low high. (omega arith, natural_64 n (omega arith))) r)) (λ _.
    choose h s (nat_eq b 0xd0) _ _ (λ e r. at_byte b 0xd0 h s e (counted_from 0xd0 h s (kind.Negative 0xff) 1 0x80 0xdf (λ n low high. (omega arith, negative_8 (0xff - n) (omega arith) (omega arith) ∙ ap (λ v. counted 0xd0 1 v) (let e : 0xff - (0xff - n) ≡ n = omega arith in e))) r)) (λ _.
    choose h s (nat_eq b 0xd1) _ _ (λ e r. at_byte b 0xd1 h s e (counted_from 0xd1 h s (kind.Negative 0xffff) 2 0x8000 0xff7f (λ n low high. (omega arith, negative_16 (0xffff - n) (omega arith) (omega arith) ∙ ap (λ v. counted 0xd1 2 v) (let e : 0xffff - (0xffff - n) ≡ n = omega arith in e))) r)) (λ _.
    choose h s (nat_eq b 0xd2) _ _ (λ e r. at_byte b 0xd2 h s e (counted_from 0xd2 h s (kind.Negative 0xffff_ffff) 4 0x8000_0000 0xffff_7fff (λ n low high. (omega arith, negative_32 (0xffff_ffff - n) (omega arith) (omega arith) ∙ ap (λ v. counted 0xd2 4 v) (let e : 0xffff_ffff - (0xffff_ffff - n) ≡ n = omega arith in e))) r)) (λ _.
    choose h s (nat_eq b 0xd3) _ _ (λ e r. at_byte b 0xd3 h s e (counted_from 0xd3 h s (kind.Negative 0xffff_ffff_ffff_ffff) 8 0x8000_0000_0000_0000 0xffff_ffff_7fff_ffff (λ n low high. (omega arith, negative_64 (0xffff_ffff_ffff_ffff - n) (omega arith) ∙ ap (λ v. counted 0xd3 8 v) (let e : 0xffff_ffff_ffff_ffff - (0xffff_ffff_ffff_ffff - n) ≡ n = omega arith in e))) r)) (λ _.
    choose h s (nat_eq b 0xd4) _ _ (λ e r. at_byte b 0xd4 h s e (whole_from 0xd4 h s (head.Sym 1) (omega arith) refl r)) (λ _.
    choose h s (nat_eq b 0xd5) _ _ (λ e r. at_byte b 0xd5 h s e (whole_from 0xd5 h s (head.Sym 2) (omega arith) refl r)) (λ _.
    choose h s (nat_eq b 0xd6) _ _ (λ e r. at_byte b 0xd6 h s e (whole_from 0xd6 h s (head.Sym 4) (omega arith) refl r)) (λ _.
    choose h s (nat_eq b 0xd7) _ _ (λ e r. at_byte b 0xd7 h s e (whole_from 0xd7 h s (head.Sym 8) (omega arith) refl r)) (λ _.
    choose h s (nat_eq b 0xd8) _ _ (λ e r. at_byte b 0xd8 h s e (whole_from 0xd8 h s (head.Sym 16) (omega arith) refl r)) (λ _.
    choose h s (nat_eq b 0xd9) _ _ (λ e r. at_byte b 0xd9 h s e (counted_from 0xd9 h s (kind.Str) 1 0x20 0xff (λ n low high. (omega arith, str_8 n (omega arith) (omega arith))) r)) (λ _.
    choose h s (nat_eq b 0xda) _ _ (λ e r. at_byte b 0xda h s e (counted_from 0xda h s (kind.Str) 2 0x100 0xffff (λ n low high. (omega arith, str_16 n (omega arith) (omega arith))) r)) (λ _.
    choose h s (nat_eq b 0xdb) _ _ (λ e r. at_byte b 0xdb h s e (counted_from 0xdb h s (kind.Str) 4 0x1_0000 0xffff_ffff (λ n low high. (omega arith, str_32 n (omega arith))) r)) (λ _.
    choose h s (nat_eq b 0xdc) _ _ (λ e r. at_byte b 0xdc h s e (counted_from 0xdc h s (kind.List) 2 0x10 0xffff (λ n low high. (omega arith, list_16 n (omega arith) (omega arith))) r)) (λ _.
    choose h s (nat_eq b 0xdd) _ _ (λ e r. at_byte b 0xdd h s e (counted_from 0xdd h s (kind.List) 4 0x1_0000 0xffff_ffff (λ n low high. (omega arith, list_32 n (omega arith))) r)) (λ _.
    choose h s (nat_eq b 0xde) _ _ (λ e r. at_byte b 0xde h s e (counted_from 0xde h s (kind.Map) 2 0x10 0xffff (λ n low high. (omega arith, map_16 n (omega arith) (omega arith))) r)) (λ _.
    choose h s (nat_eq b 0xdf) _ _ (λ e r. at_byte b 0xdf h s e (counted_from 0xdf h s (kind.Map) 4 0x1_0000 0xffff_ffff (λ n low high. (omega arith, map_32 n (omega arith))) r)) (λ _.
    λ r. absurd r))))))))))))))))))))))))))

pub head_from : (b : ℕ) (h : Head) (s : List ℕ) → b < 256 → Follows (form_of b) h s → HeadFrom b h s
head_from b h s small r =
    elim (cases_lt b 0x80) [
      | inl k ↦ whole_from b h s (head.Int (pos b)) (omega arith) (natural_fix b (omega arith)) (subst (λ f. Follows f h s) (form_low b k) r)
      | inr k ↦ elim (cases_lt b 0x90) [
        | inl l ↦ whole_from b h s (head.Map (b - 0x80)) (omega arith) (map_fix (b - 0x80) (omega arith) ∙ ap (λ v. v ∷ []) (let e : 0x80 + (b - 0x80) ≡ b = omega arith in e)) (subst (λ f. Follows f h s) (form_map b k l) r)
        | inr l ↦ elim (cases_lt b 0xa0) [
          | inl m ↦ whole_from b h s (head.List (b - 0x90)) (omega arith) (list_fix (b - 0x90) (omega arith) ∙ ap (λ v. v ∷ []) (let e : 0x90 + (b - 0x90) ≡ b = omega arith in e)) (subst (λ f. Follows f h s) (form_list b l m) r)
          | inr m ↦ elim (cases_lt b 0xc0) [
            | inl n ↦ whole_from b h s (head.Str (b - 0xa0)) (omega arith) (str_fix (b - 0xa0) (omega arith) ∙ ap (λ v. v ∷ []) (let e : 0xa0 + (b - 0xa0) ≡ b = omega arith in e)) (subst (λ f. Follows f h s) (form_str b m n) r)
            | inr n ↦ elim (cases_lt b 0xe0) [
              | inl o ↦ middle_from b h s (subst (λ f. Follows f h s) (form_middle b n o) r)
              | inr o ↦ whole_from b h s (head.Int (negsuc (0xff - b))) (omega arith) (negative_fix (0xff - b) (omega arith) ∙ ap (λ v. v ∷ []) (let e : 0xff - (0xff - b) ≡ b = omega arith in e)) (subst (λ f. Follows f h s) (form_high b o) r)
            ]
          ]
        ]
      ]
    ]

-- a form of lists and maps has no other heads
pub nest_is : (f : Form) (h : Head) (s : List ℕ) → Follows f h s → is_nest_form f ≡ is_nest_head h
nest_is (form.Refused) h s r = absurd r
nest_is (form.Whole g) h s (same, none) = ap is_nest_head (sym same)
nest_is (form.Counted k size low high) h s (n, num, same) = kind_nest k n ∙ ap is_nest_head (sym same)
  where
    kind_nest : (k : Kind) (n : ℕ) → is_nest_kind k ≡ is_nest_head (head_with k n)
    kind_nest (kind.Natural) n = refl
    kind_nest (kind.Negative top) n = refl
    kind_nest (kind.Str) n = refl
    kind_nest (kind.Sym) n = refl
    kind_nest (kind.List) n = refl
    kind_nest (kind.Map) n = refl
nest_is (form.ShortSymbol) h s (n, small, free, same, is) = ap is_nest_head (sym same)

-- forms are sound
sound_choose : (t : Bool) (A B : Form) → IsSoundForm A → IsSoundForm B → IsSoundForm (cond t A B)
sound_choose true A B f g = f
sound_choose false A B f g = g

sound_middle : (b : ℕ) → IsSoundForm (middle_form b)
unfolding middle_form
sound_middle b =
    sound_choose (nat_eq b 0xc0) _ _ tt (
    sound_choose (nat_eq b 0xc2) _ _ tt (
    sound_choose (nat_eq b 0xc3) _ _ tt (
    sound_choose (nat_eq b 0xc7) _ _ tt (
    sound_choose (nat_eq b 0xc8) _ _ (record { size_fits = omega arith; some = omega arith; above = omega arith; kinds = λ n h k. omega arith }) (
    sound_choose (nat_eq b 0xc9) _ _ (record { size_fits = omega arith; some = omega arith; above = omega arith; kinds = λ n h k. omega arith }) (
    sound_choose (nat_eq b 0xcc) _ _ (record { size_fits = omega arith; some = omega arith; above = omega arith; kinds = λ n h k. omega arith }) (
    sound_choose (nat_eq b 0xcd) _ _ (record { size_fits = omega arith; some = omega arith; above = omega arith; kinds = λ n h k. omega arith }) (
    sound_choose (nat_eq b 0xce) _ _ (record { size_fits = omega arith; some = omega arith; above = omega arith; kinds = λ n h k. omega arith }) (
    sound_choose (nat_eq b 0xcf) _ _ (record { size_fits = omega arith; some = omega arith; above = omega arith; kinds = λ n h k. omega arith }) (
    sound_choose (nat_eq b 0xd0) _ _ (record { size_fits = omega arith; some = omega arith; above = omega arith; kinds = λ n h k. (omega arith, omega arith) }) (
    sound_choose (nat_eq b 0xd1) _ _ (record { size_fits = omega arith; some = omega arith; above = omega arith; kinds = λ n h k. (omega arith, omega arith) }) (
    sound_choose (nat_eq b 0xd2) _ _ (record { size_fits = omega arith; some = omega arith; above = omega arith; kinds = λ n h k. (omega arith, omega arith) }) (
    sound_choose (nat_eq b 0xd3) _ _ (record { size_fits = omega arith; some = omega arith; above = omega arith; kinds = λ n h k. (omega arith, omega arith) }) (
    sound_choose (nat_eq b 0xd4) _ _ tt (
    sound_choose (nat_eq b 0xd5) _ _ tt (
    sound_choose (nat_eq b 0xd6) _ _ tt (
    sound_choose (nat_eq b 0xd7) _ _ tt (
    sound_choose (nat_eq b 0xd8) _ _ tt (
    sound_choose (nat_eq b 0xd9) _ _ (record { size_fits = omega arith; some = omega arith; above = omega arith; kinds = λ n h k. omega arith }) (
    sound_choose (nat_eq b 0xda) _ _ (record { size_fits = omega arith; some = omega arith; above = omega arith; kinds = λ n h k. omega arith }) (
    sound_choose (nat_eq b 0xdb) _ _ (record { size_fits = omega arith; some = omega arith; above = omega arith; kinds = λ n h k. omega arith }) (
    sound_choose (nat_eq b 0xdc) _ _ (record { size_fits = omega arith; some = omega arith; above = omega arith; kinds = λ n h k. omega arith }) (
    sound_choose (nat_eq b 0xdd) _ _ (record { size_fits = omega arith; some = omega arith; above = omega arith; kinds = λ n h k. omega arith }) (
    sound_choose (nat_eq b 0xde) _ _ (record { size_fits = omega arith; some = omega arith; above = omega arith; kinds = λ n h k. omega arith }) (
    sound_choose (nat_eq b 0xdf) _ _ (record { size_fits = omega arith; some = omega arith; above = omega arith; kinds = λ n h k. omega arith }) (
    tt))))))))))))))))))))))))))

pub sound_form : (b : ℕ) → IsSoundForm (form_of b)
unfolding form_of
sound_form b =
    sound_choose (nat_lt b 0x80) _ _ tt (
    sound_choose (nat_lt b 0x90) _ _ tt (
    sound_choose (nat_lt b 0xa0) _ _ tt (
    sound_choose (nat_lt b 0xc0) _ _ tt (
    sound_choose (nat_lt b 0xe0) _ _ (sound_middle b) tt))))
