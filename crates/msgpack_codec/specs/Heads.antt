-- The first bytes of a spelling, as the code reads them: by the first byte, and then by a number.
use Rattle.std.specs.Prelude.{◌≡◌, ℕ, ◌-◌, ◌/◌, ◌^◌, ◌<◌, ◌≤◌, Bool, true, false, ◌||◌, if◌then◌else◌, nat_lt, nat_eq, pos, negsuc, List, [], ◌∷◌}
use Rattle.msgpack_codec.specs.declared.heads.Head.{Head}
use Rattle.msgpack_codec.specs.declared.heads.Head.TheVariants as head
use Rattle.msgpack_codec.specs.declared.heads.Kind.{Kind}
use Rattle.msgpack_codec.specs.declared.heads.Kind.TheVariants as kind
use Rattle.msgpack_codec.specs.declared.heads.Form.{Form}
use Rattle.msgpack_codec.specs.declared.heads.Form.TheVariants as form
use Rattle.msgpack_codec.specs.Message.{natural, negative, str_head, sym_head, list_head, map_head, IsInteger}
use Rattle.msgpack_codec.specs.Reading.{IsNumber}

abbrev pub head_bytes : Head → List ℕ
head_bytes (head.Nil) = 0xc0 ∷ []
head_bytes (head.Bool b) = (if b then 0xc3 else 0xc2) ∷ []
head_bytes (head.Int (pos n)) = natural n
head_bytes (head.Int (negsuc m)) = negative m
head_bytes (head.Str n) = str_head n
head_bytes (head.Sym n) = sym_head n
head_bytes (head.List n) = list_head n
head_bytes (head.Map n) = map_head n

abbrev pub IsHead : Head → Type 0
IsHead (head.Nil) = Unit {0}
IsHead (head.Bool b) = Unit {0}
IsHead (head.Int n) = IsInteger n
IsHead (head.Str n) = n < 2 ^ 32
IsHead (head.Sym n) = n < 2 ^ 32
IsHead (head.List n) = n < 2 ^ 32
IsHead (head.Map n) = n < 2 ^ 32

abbrev pub is_nest_head : Head → Bool
is_nest_head (head.Nil) = false
is_nest_head (head.Bool b) = false
is_nest_head (head.Int n) = false
is_nest_head (head.Str n) = false
is_nest_head (head.Sym n) = false
is_nest_head (head.List n) = true
is_nest_head (head.Map n) = true

-- a head where lists and maps may stand, or may not
pub record HeadAt (nests : Bool) (h : Head) (bytes : List ℕ) : Type 0 where
  pub fits : IsHead h
  pub allowed : is_nest_head h ≡ true → nests ≡ true
  pub bytes_are : bytes ≡ head_bytes h

-- the lengths of symbols that have first bytes of their own
abbrev pub is_fixed : ℕ → Bool
is_fixed n = nat_eq n 1 || (nat_eq n 2 || (nat_eq n 4 || (nat_eq n 8 || nat_eq n 16)))

abbrev pub head_with : Kind → ℕ → Head
head_with (kind.Natural) n = head.Int (pos n)
head_with (kind.Negative top) n = head.Int (negsuc (top - n))
head_with (kind.Str) n = head.Str n
head_with (kind.Sym) n = head.Sym n
head_with (kind.List) n = head.List n
head_with (kind.Map) n = head.Map n

-- the bytes that follow a first byte of this form, and the head that they make
abbrev pub Follows : Form → Head → List ℕ → Type 0
Follows (form.Refused) h bytes = ⊥
Follows (form.Whole g) h bytes = (h ≡ g) × (bytes ≡ [])
Follows (form.Counted k size low high) h bytes = (n : ℕ) × IsNumber size 0 low high n bytes × (h ≡ head_with k n)
Follows (form.ShortSymbol) h bytes = (n : ℕ) × (n < 256) × (is_fixed n ≡ false) × (h ≡ head.Sym n) × (bytes ≡ n ∷ [])

-- from c0 to df
unfoldable pub middle_form : ℕ → Form
middle_form b =
    if nat_eq b 0xc0 then form.Whole head.Nil
    else (if nat_eq b 0xc2 then form.Whole (head.Bool false)
    else (if nat_eq b 0xc3 then form.Whole (head.Bool true)
    else (if nat_eq b 0xc7 then form.ShortSymbol
    else (if nat_eq b 0xc8 then form.Counted kind.Sym 2 0x100 0xffff
    else (if nat_eq b 0xc9 then form.Counted kind.Sym 4 0x1_0000 0xffff_ffff
    else (if nat_eq b 0xcc then form.Counted kind.Natural 1 0x80 0xff
    else (if nat_eq b 0xcd then form.Counted kind.Natural 2 0x100 0xffff
    else (if nat_eq b 0xce then form.Counted kind.Natural 4 0x1_0000 0xffff_ffff
    else (if nat_eq b 0xcf then form.Counted kind.Natural 8 0x1_0000_0000 0x7fff_ffff_ffff_ffff
    else (if nat_eq b 0xd0 then form.Counted (kind.Negative 0xff) 1 0x80 0xdf
    else (if nat_eq b 0xd1 then form.Counted (kind.Negative 0xffff) 2 0x8000 0xff7f
    else (if nat_eq b 0xd2 then form.Counted (kind.Negative 0xffff_ffff) 4 0x8000_0000 0xffff_7fff
    else (if nat_eq b 0xd3 then form.Counted (kind.Negative 0xffff_ffff_ffff_ffff) 8 0x8000_0000_0000_0000 0xffff_ffff_7fff_ffff
    else (if nat_eq b 0xd4 then form.Whole (head.Sym 1)
    else (if nat_eq b 0xd5 then form.Whole (head.Sym 2)
    else (if nat_eq b 0xd6 then form.Whole (head.Sym 4)
    else (if nat_eq b 0xd7 then form.Whole (head.Sym 8)
    else (if nat_eq b 0xd8 then form.Whole (head.Sym 16)
    else (if nat_eq b 0xd9 then form.Counted kind.Str 1 0x20 0xff
    else (if nat_eq b 0xda then form.Counted kind.Str 2 0x100 0xffff
    else (if nat_eq b 0xdb then form.Counted kind.Str 4 0x1_0000 0xffff_ffff
    else (if nat_eq b 0xdc then form.Counted kind.List 2 0x10 0xffff
    else (if nat_eq b 0xdd then form.Counted kind.List 4 0x1_0000 0xffff_ffff
    else (if nat_eq b 0xde then form.Counted kind.Map 2 0x10 0xffff
    else (if nat_eq b 0xdf then form.Counted kind.Map 4 0x1_0000 0xffff_ffff
    else form.Refused)))))))))))))))))))))))))

unfoldable pub form_of : ℕ → Form
form_of b =
    if nat_lt b 0x80 then form.Whole (head.Int (pos b))
    else (if nat_lt b 0x90 then form.Whole (head.Map (b - 0x80))
    else (if nat_lt b 0xa0 then form.Whole (head.List (b - 0x90))
    else (if nat_lt b 0xc0 then form.Whole (head.Str (b - 0xa0))
    else (if nat_lt b 0xe0 then middle_form b
    else form.Whole (head.Int (negsuc (0xff - b)))))))

abbrev pub is_nest_kind : Kind → Bool
is_nest_kind (kind.Natural) = false
is_nest_kind (kind.Negative top) = false
is_nest_kind (kind.Str) = false
is_nest_kind (kind.Sym) = false
is_nest_kind (kind.List) = true
is_nest_kind (kind.Map) = true

-- a form of lists or maps
abbrev pub is_nest_form : Form → Bool
is_nest_form (form.Refused) = false
is_nest_form (form.Whole h) = is_nest_head h
is_nest_form (form.Counted k size low high) = is_nest_kind k
is_nest_form (form.ShortSymbol) = false

-- a number that can stand for a head of this kind
abbrev pub IsNumberOf : Kind → ℕ → Type 0
IsNumberOf (kind.Natural) n = n < 2 ^ 63
IsNumberOf (kind.Negative top) n = (n ≤ top) × (top - n < 2 ^ 63)
IsNumberOf (kind.Str) n = n < 2 ^ 32
IsNumberOf (kind.Sym) n = n < 2 ^ 32
IsNumberOf (kind.List) n = n < 2 ^ 32
IsNumberOf (kind.Map) n = n < 2 ^ 32

-- a number from low to high in so many bytes
pub record IsCount (k : Kind) (size low high : ℕ) : Type 0 where
  pub size_fits : size ≤ 8
  pub some : low ≤ high
  pub above : low / 256 ^ size ≤ 0
  pub kinds : (n : ℕ) → low ≤ n → n ≤ high → IsNumberOf k n

abbrev pub IsSoundForm : Form → Type 0
IsSoundForm (form.Refused) = Unit {0}
IsSoundForm (form.Whole h) = Unit {0}
IsSoundForm (form.Counted k size low high) = IsCount k size low high
IsSoundForm (form.ShortSymbol) = Unit {0}

-- whether a head of this form can stand where lists and maps may, or may not
abbrev pub can_stand : Form → Bool → Bool
can_stand (form.Refused) nests = false
can_stand (form.Whole h) nests = if is_nest_head h then nests else true
can_stand (form.Counted k size low high) nests = if is_nest_kind k then nests else true
can_stand (form.ShortSymbol) nests = true
