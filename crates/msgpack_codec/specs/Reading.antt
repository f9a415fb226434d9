-- What the functions say that read a part from the front of the bytes.
use Rattle.std.specs.Prelude.{◌≡◌, ℕ, zero, suc, ◌/◌, ◌^◌, ◌≤◌, List, [], ◌∷◌, ◌++◌, length}
use Rattle.std.specs.Int.{bytes_high_first}
use Rattle.msgpack_codec.specs.declared.stop.Stop.{Stop}
use Rattle.msgpack_codec.specs.declared.stop.Stop.TheVariants as stop

-- the front of the bytes spells x, and rest is what follows
pub record Found {X : Type 0} (L : X → List ℕ → Type 0) (x : X) (bytes rest : List ℕ) : Type 0 where
  pub spelling : List ℕ
  pub spelled : L x spelling
  pub parts : bytes ≡ spelling ++ rest

-- with a byte and more behind them, the bytes spell something
pub record Begins {X : Type 0} (L : X → List ℕ → Type 0) (bytes : List ℕ) : Type 0 where
  pub value : X
  pub next : ℕ
  pub more : List ℕ
  pub spelled : L value (bytes ++ next ∷ more)

-- a front of the bytes begins a spelling, and with the next byte it does no more
pub record Fails {X : Type 0} (L : X → List ℕ → Type 0) (bytes : List ℕ) (left : ℕ) : Type 0 where
  pub front : List ℕ
  pub byte : ℕ
  pub rest : List ℕ
  pub parts : bytes ≡ front ++ byte ∷ rest
  pub count : left ≡ length (byte ∷ rest)
  pub begins : Begins L front
  pub dead : (x : X) (more : List ℕ) → L x (front ++ byte ∷ more) → ⊥

abbrev pub Stopped : {X : Type 0} → (X → List ℕ → Type 0) → List ℕ → Stop → Type 0
Stopped L bytes stop.Short = Begins L bytes
Stopped L bytes (stop.Bad left) = Fails L bytes left
Stopped L bytes stop.NoMemory = Unit {0}

-- a number from low to high, whose bytes before the last ones are front
pub record IsNumber (size front low high n : ℕ) (bytes : List ℕ) : Type 0 where
  pub front_is : n / 256 ^ size ≡ front
  pub at_least : low ≤ n
  pub at_most : n ≤ high
  pub bytes_are : bytes ≡ bytes_high_first size n

-- n parts one after another, each by a language that may depend on the parts before it
abbrev pub Sequence : {S A : Type 0} → (S → A → List ℕ → Type 0) → (S → A → S) → S → ℕ → List A → List ℕ → Type 0
Sequence E next st zero all bytes = (all ≡ []) × (bytes ≡ [])
Sequence {S} {A} E next st (suc n) all bytes =
    (a : A) × (rest : List A) × (s : List ℕ) × (t : List ℕ) × E st a s × Sequence E next (next st a) n rest t × (bytes ≡ s ++ t) × (all ≡ a ∷ rest)
