-- Spellings: which bytes stand for which value, and how spellings are combined. `S b x` is read: the bytes b say x.
--
-- A value that can be refused is a `Result`: bytes say `Ok x` if they spell x, and `Err f` if they breach the rule f
-- and no shorter beginning of them does. For such a spelling, to be prefix-free means three things: any bytes begin
-- with the spelling of at most one value, bytes that breach a rule begin with none, and the bytes alone decide which
-- rule is breached.
use Rattle.std.specs.Prelude.{◌≡◌, ℕ, zero, suc, ◌<◌, List, [], ◌∷◌, ◌++◌, length, Result, Ok, Err}
use Rattle.lvl_io.specs.Known.{Agree}

-- of all beginnings of a list at most one says something, and it says one thing
pub record IsPrefixFree {A : Type 0} (S : List ℕ → A → Type 0) : Type 0 where
  pub only : (b c m n : List ℕ) (x y : A) → S b x → S c y → b ++ m ≡ c ++ n → (b ≡ c) × (x ≡ y)

-- the first n bytes of xs say x
pub record FirstBytesSay {A : Type 0} (S : List ℕ → A → Type 0) (xs : List ℕ) (n : ℕ) (x : A) : Type 0 where
  pub bytes : List ℕ
  pub rest : List ℕ
  pub says : S bytes x
  pub whole : xs ≡ bytes ++ rest
  pub count : length bytes ≡ n

-- xs is an unfinished beginning: followed by more bytes, at least one, it says something
pub record IsBegun {A : Type 0} (S : List ℕ → A → Type 0) (xs : List ℕ) : Type 0 where
  pub more : List ℕ
  pub value : A
  pub short : 0 < length more
  pub says : S (xs ++ more) value

-- no bytes that say x agree with xs: neither is a prefix of the other
abbrev pub NoneAgrees : {A : Type 0} → (List ℕ → A → Type 0) → List ℕ → A → Type 0
NoneAgrees S xs x = (b : List ℕ) → S b x → Agree b xs → ⊥

-- there are bytes that say something
pub record CanSay {A : Type 0} (S : List ℕ → A → Type 0) : Type 0 where
  pub bytes : List ℕ
  pub value : A
  pub says : S bytes value

-- the empty list says x, and no other bytes say anything
abbrev pub Gives : {A : Type 0} → A → List ℕ → A → Type 0
Gives x b y = (b ≡ []) × (y ≡ x)

-- one after another: bytes that say some value by S, and then bytes that are read by T for that value
pub record After {A B : Type 0} (S : List ℕ → A → Type 0) (T : A → List ℕ → B → Type 0) (b : List ℕ) (y : B) : Type 0
  where
    pub value : A
    pub first : List ℕ
    pub second : List ℕ
    pub first_says : S first value
    pub second_says : T value second y
    pub joined : b ≡ first ++ second

-- T for a value; after a breach nothing more is read, and the breach is what is said
abbrev pub UnlessBreached : {A B F : Type 0} → (A → List ℕ → Result B F → Type 0) → Result A F → List ℕ → Result B F
    → Type 0
UnlessBreached T (Ok x) = T x
UnlessBreached T (Err f) = Gives (Err f)

-- S and then T for its value; a breach of S is a breach of the whole
abbrev pub Then : {A B F : Type 0} → (List ℕ → Result A F → Type 0) → (A → List ℕ → Result B F → Type 0) → List ℕ
    → Result B F → Type 0
Then S T = After S (UnlessBreached T)

-- n values one after another: the first is read by S for a, and each other by S for the one before it. The whole says
-- the list of what `show` makes of each
abbrev pub Chain : {A B F : Type 0} → (A → List ℕ → Result A F → Type 0) → (A → B) → ℕ → A → List ℕ → Result (List B) F
    → Type 0
Chain S show zero a = Gives (Ok [])
Chain S show (suc n) a = Then (S a) (λ x. Then (Chain S show n x) (λ ys. Gives (Ok (show x ∷ ys))))
