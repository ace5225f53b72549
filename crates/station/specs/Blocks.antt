-- A block as its hash and four words; nothing is written where there is none.
use Rattle.std.specs.Prelude.{◌≡◌, List, [], ◌∷◌, ℕ, Option, None, Some}
use Rattle.std.proofs.lemmas.List.Edits.{sets}
use Rattle.rules.specs.Hashes.{put_hash}
use Rattle.rules.specs.declared.Block.{Block}

abbrev pub is_there : (block : Option Block) → ℕ
is_there None = 0
is_there (Some block) = 1

abbrev pub hash_got : (block : Option Block) (bytes : List ℕ) → List ℕ
hash_got None bytes = bytes
hash_got (Some block) bytes = put_hash bytes 0 block.hash

abbrev pub words_got : (block : Option Block) (words : List ℕ) → List ℕ
words_got None words = words
words_got (Some block) words = sets words 0 (block.parent.0 ∷ block.sequence.0 ∷ block.count ∷ block.flags ∷ [])

-- the number answered, and the two lists afterwards
abbrev pub Gets : (o : Option Block) (bytes words : List ℕ) (number : ℕ) (hash left : List ℕ) → Type 0
Gets o bytes words number hash left = (number ≡ is_there o) × ((hash ≡ hash_got o bytes) × (left ≡ words_got o words))
