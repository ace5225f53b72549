-- It does not matter in which chunks an input comes; and what is held goes along with the session.
use mathlib.Core.Path.{◌≡◌, refl, ap}
use mathlib.Core.List.{List, [], ◌∷◌, ◌++◌, flatten}
use Prim.Native.Nat.{ℕ}
use Rattle.trial_lines.specs.Fed.{Fed, fed as fed_by}
use Rattle.trial_lines.proofs.Joined.{fed-in-chunks}
use Rattle.trial_session.specs.Session.{Session, fed_byte, fed, closing, start, transcript, in_chunks}
use Rattle.trial_session.specs.Held.{Held, held_byte, held_fed, kept_byte}

pub in-chunks : (s : Session) (chunks : List (List ℕ))
    → in_chunks s chunks ≡ (fed s (flatten chunks)).said ++ closing (fed s (flatten chunks)).after
in-chunks s chunks = fed-in-chunks fed_byte closing s chunks

pub whole-in-chunks : (chunks : List (List ℕ)) → in_chunks start chunks ≡ transcript (flatten chunks)
unfolding transcript
whole-in-chunks chunks = in-chunks start chunks

pub kept_fed : (h : Held) (s : Session) (bytes : List ℕ)
    → fed_by kept_byte (h, s) bytes ≡ record { after = (held_fed h bytes, (fed s bytes).after); said = (fed s bytes).said }
unfolding fed_by held_fed kept_byte
kept_fed h s [] = refl
kept_fed h s (byte ∷ bytes) =
    let f = fed_byte s byte in
    ap (λ (g : Fed (Held × Session)). record { after = g.after; said = f.said ++ g.said }) (kept_fed (held_byte h byte) f.after bytes)
