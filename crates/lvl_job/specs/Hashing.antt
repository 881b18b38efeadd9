-- Files that are hashed one after another, with a text that is written for each (own rule).
use Rattle.std.specs.Prelude.{◌≡◌, ℕ, List, [], ◌∷◌, ◌++◌, map, flat_map, Option, Result, Ok, Err}
use Rattle.std.specs.Io.KnownBytes.{Appends}
use Rattle.lvl.specs.declared.digested.Digested.{Digested}
use Rattle.lvl.specs.declared.verdict.Refusal.{Refusal}
use Rattle.lvl_report.specs.Runs.{IsDigestedBy}
use Rattle.lvl_report.specs.Writing.{AppendsBeginning}
use Rattle.lvl_job.specs.Jobs.{Named, OfOne}
use Rattle.lvl_job.specs.Opening.{Opened}
use Rattle.lvl_job.specs.declared.files.OpenFault.{OpenFault}

-- what became of a file: the answer of its digest, or why it couldn't be opened
abbrev pub Hash : Type 0
Hash = Result (Result Digested Refusal) OpenFault

-- the file was opened and read once, with this answer, or it couldn't be opened
abbrev pub IsHashed : {S : Type 0} → (S → List ℕ → Opened → S → Type 0) → Named → S → S → Hash
    → Type 0
IsHashed opens a old new (Err why) = opens old a.name (Err why) new
IsHashed opens a old new (Ok answer) = OfOne opens old new a (λ x. IsDigestedBy x answer)

-- the files of these items were hashed in this order, each once, and no other file was opened
abbrev pub AreHashed : {S X : Type 0} → (S → List ℕ → Opened → S → Type 0) → (X → Named) → S → S
    → List (X × Hash) → Type 0
AreHashed opens file old new [] = new ≡ old
AreHashed opens file old new (p ∷ ps) =
    (between : _) × IsHashed opens (file p.0) old between p.1 × AreHashed opens file between new ps

-- the items, without what became of their files
abbrev pub items_of : {X : Type 0} → List (X × Hash) → List X
items_of done = map (λ p. p.0) done

-- the texts of the items, one after another
abbrev pub texts_of : {X : Type 0} → (X → Hash → List ℕ) → List (X × Hash) → List ℕ
texts_of text done = flat_map (λ p. text p.0 p.1) done

-- the files of these items were hashed, and the text of each was written
pub record IsPass {S X : Type 0} (opens : S → List ℕ → Opened → S → Type 0) (file : X → Named)
    (text : X → Hash → List ℕ) (old new : S) (from to : Option (List ℕ)) (done : List (X × Hash)) : Type 0 where
  pub hashed : AreHashed opens file old new done
  pub whole : Appends from to (texts_of text done)

-- the files of the first of these items were hashed, their texts written and what is said of them said; the rest wasn't
pub record IsPart {S X : Type 0} (opens : S → List ℕ → Opened → S → Type 0) (file : X → Named)
    (text note : X → Hash → List ℕ) (items : List X) (old : S) (from to : Option (List ℕ)) (said : List ℕ) : Type 0 where
  pub done : List (X × Hash)
  pub rest : List X
  pub new : S
  pub order : items ≡ items_of done ++ rest
  pub pass : IsPass opens file text old new from to done
  pub said_is : said ≡ texts_of note done

-- after such a part one file more was hashed, and a beginning of its text was written; nothing was said of it
pub record IsStopped {S X : Type 0} (opens : S → List ℕ → Opened → S → Type 0) (file : X → Named)
    (text note : X → Hash → List ℕ) (items : List X) (old new : S) (from to : Option (List ℕ)) (said : List ℕ)
    : Type 0 where
  pub between : S
  pub middle : Option (List ℕ)
  pub done : List (X × Hash)
  pub last : X
  pub hash : Hash
  pub rest : List X
  pub order : items ≡ items_of done ++ last ∷ rest
  pub pass : IsPass opens file text old between from middle done
  pub hashed : IsHashed opens (file last) between new hash
  pub begun : AppendsBeginning middle to (text last hash)
  pub said_is : said ≡ texts_of note done
