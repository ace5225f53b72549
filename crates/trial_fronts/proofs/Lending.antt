-- The front of an array, lent and come back as long as it went: the front is what came back, and what stands behind is as it was.
use mathlib.Core.Path.{◌≡◌, sym, ap, ◌∙◌}
use Rattle.std.specs.Prelude.{Option}
use mathlib.Core.Bool.{Bool}
use mathlib.Core.List.{List, [], ◌++◌, append-nil}
use Prim.Native.Nat.{ℕ, ◌*◌, ◌-◌, min}
use native.Mathlib.Omega.{arith}
use lib.ListN.{length, take, drop, length-take, drop_of_length-le}
use lib.Seq.{take_all, take_at, drop_at}
use Rattle.rules.specs.Hashes.{hash_length}
use Rattle.rules.specs.Records.{Tables, tables_of}
use Rattle.rules.specs.Calls.{state_of}
use Rattle.rules.proofs.Splits.{less?}
use Rattle.trial_lines.specs.declared.Line.{Line}
use Rattle.trial_lines.specs.Printing.{printed}
use Rattle.trial_lines.specs.declared.page.Page.{Page}
use Rattle.trial_calls.specs.Calling.{Tells}
use Rattle.trial_listing.specs.Listing.{listing_of}
use Rattle.trial_fronts.specs.Fronts.{front, behind, TellsFront}

-- ---- tables field by field

-- two tables with the same fields
pub record Same (t u : Tables) : Type 0 where
  pub hashes : t.blocks.hashes ≡ u.blocks.hashes
  pub parents : t.blocks.parents ≡ u.blocks.parents
  pub sequences : t.blocks.sequences ≡ u.blocks.sequences
  pub counts : t.blocks.counts ≡ u.blocks.counts
  pub flags : t.blocks.flags ≡ u.blocks.flags
  pub tips : t.heads.tips ≡ u.heads.tips
  pub tails : t.heads.tails ≡ u.heads.tails
  pub missing : t.heads.missing ≡ u.heads.missing
  pub requested : t.heads.requested ≡ u.heads.requested
  pub arrivals : t.heads.arrivals ≡ u.heads.arrivals
  pub connected : t.heads.connected ≡ u.heads.connected

pub same_tables : (t u : Tables) → Same t u → t ≡ u
same_tables t u e =
    λ i. tables_of (e.hashes i) (e.parents i) (e.sequences i) (e.counts i) (e.flags i) (e.tips i) (e.tails i) (e.missing i) (e.requested i) (e.arrivals i) (e.connected i)

-- ---- the front of one array, and of all

-- of an array the first k cells are lent and come back; the array is then `whole`
pub record Came (k : ℕ) (array lent back whole : List ℕ) : Type 0 where
  pub went : lent ≡ take k array
  pub first : take k whole ≡ back
  pub rest : drop k whole ≡ drop k array

pub came : (k e : ℕ) (array back : List ℕ) → e ≡ min k (length array) → length back ≡ length (take e array)
    → Came k array (take e array) back (back ++ drop e array)
came k e array back is same =
    less? (length array) k
    (λ h. let q : e ≡ length array = omega arith in
    let d : drop e array ≡ [] = drop_of_length-le array {i = e} (omega arith) in
    let w : take e array ≡ array = take_all e array (omega arith) in
    let l : length back ≡ length array = same ∙ ap length w in
    let a : back ++ drop e array ≡ back = ap (λ (x : List ℕ). back ++ x) d ∙ append-nil back in
    record {
      went = w ∙ sym (take_all k array (omega arith));
      first = ap (take k) a ∙ take_all k back (omega arith);
      rest = ap (drop k) a ∙ drop_of_length-le back {i = k} (omega arith) ∙ sym (drop_of_length-le array {i = k} (omega arith));
    })
    (λ h. let q : e ≡ k = omega arith in
    let l : length back ≡ k = omega (arith, length-take e array) in
    record {
      went = ap (λ (x : ℕ). take x array) q;
      first = take_at back (drop e array) k l;
      rest = drop_at back (drop e array) k l ∙ ap (λ (x : ℕ). drop x array) q;
    })

-- the same of every field
pub record Lent (n m : ℕ) (t lent back u : Tables) : Type 0 where
  pub hashes : Came (n * hash_length) t.blocks.hashes lent.blocks.hashes back.blocks.hashes u.blocks.hashes
  pub parents : Came n t.blocks.parents lent.blocks.parents back.blocks.parents u.blocks.parents
  pub sequences : Came n t.blocks.sequences lent.blocks.sequences back.blocks.sequences u.blocks.sequences
  pub counts : Came n t.blocks.counts lent.blocks.counts back.blocks.counts u.blocks.counts
  pub flags : Came n t.blocks.flags lent.blocks.flags back.blocks.flags u.blocks.flags
  pub tips : Came m t.heads.tips lent.heads.tips back.heads.tips u.heads.tips
  pub tails : Came m t.heads.tails lent.heads.tails back.heads.tails u.heads.tails
  pub missing : Came (m * hash_length) t.heads.missing lent.heads.missing back.heads.missing u.heads.missing
  pub requested : Came m t.heads.requested lent.heads.requested back.heads.requested u.heads.requested
  pub arrivals : Came m t.heads.arrivals lent.heads.arrivals back.heads.arrivals u.heads.arrivals
  pub connected : Came m t.heads.connected lent.heads.connected back.heads.connected u.heads.connected

module _ {n m : ℕ} {t lent back u : Tables} (l : Lent n m t lent back u) where
  lent_is : lent ≡ front n m t
  unfolding front
  lent_is = same_tables lent (front n m t) (record { hashes = l.hashes.went; parents = l.parents.went; sequences = l.sequences.went; counts = l.counts.went; flags = l.flags.went; tips = l.tips.went; tails = l.tails.went; missing = l.missing.went; requested = l.requested.went; arrivals = l.arrivals.went; connected = l.connected.went })

  back_is : front n m u ≡ back
  unfolding front
  back_is = same_tables (front n m u) back (record { hashes = l.hashes.first; parents = l.parents.first; sequences = l.sequences.first; counts = l.counts.first; flags = l.flags.first; tips = l.tips.first; tails = l.tails.first; missing = l.missing.first; requested = l.requested.first; arrivals = l.arrivals.first; connected = l.connected.first })

  rest-is : behind n m u ≡ behind n m t
  unfolding behind
  rest-is = same_tables (behind n m u) (behind n m t) (record { hashes = l.hashes.rest; parents = l.parents.rest; sequences = l.sequences.rest; counts = l.counts.rest; flags = l.flags.rest; tips = l.tips.rest; tails = l.tails.rest; missing = l.missing.rest; requested = l.requested.rest; arrivals = l.arrivals.rest; connected = l.connected.rest })

pub tells-front : {n m : ℕ} {t lent back u : Tables} {a b : ℕ} {line : Option Line} {page told : Page} {renewed : Bool}
    → Tells (state_of lent a) line page (state_of back b) renewed told → Lent n m t lent back u
    → TellsFront n m t a line page u b renewed told
tells-front tell l = (rw (← lent_is l, back_is l) tell, rest-is l)

-- ---- a front that is only read

pub front-is : (k e : ℕ) (array : List ℕ) → e ≡ min k (length array) → take (e - 0) (drop 0 array) ≡ take k array
front-is k e array is =
    let z : e - 0 ≡ e = omega arith in
    less? (length array) k
    (λ h. rw z (take_all e array (omega arith) ∙ sym (take_all k array (omega arith))))
    (λ h. let q : e ≡ k = omega arith in rw (z, q))

pub lists-front : (page told : Page) (p s c f t l k p' s' c' f' t' l' k' : List ℕ)
    → told ≡ printed page (listing_of p s c f t l k)
    → p ≡ p' → s ≡ s' → c ≡ c' → f ≡ f' → t ≡ t' → l ≡ l' → k ≡ k'
    → told ≡ printed page (listing_of p' s' c' f' t' l' k')
lists-front page told p s c f t l k p' s' c' f' t' l' k' is e₁ e₂ e₃ e₄ e₅ e₆ e₇ = rw (← e₁, ← e₂, ← e₃, ← e₄, ← e₅, ← e₆, ← e₇) is
