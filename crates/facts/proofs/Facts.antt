-- Soundness as facts of rows: from the code's tests, and back.
-- Assumes nothing.
use mathlib.Core.Path.{◌≡◌}
use mathlib.Core.Bool.{true}
use mathlib.Core.List.{[], ◌∷◌}
use borrow.Author.Tests.{leb-true, le-leb}
use Rattle.laws.specs.Search.{all}
use Rattle.book.specs.Layout.{spares, rows_of}
use Rattle.book.specs.State.{State}
use Rattle.rules.specs.ByRow.{sound_head, sound_security, sound_participant, sound_basket, sound_row, distinct_number, sound_exposure, distinct_key, sound_position, sound_holding, sound_positions, sound_holdings, is_spare, sound_set_up, sound_requests, sound_exposures, sound_by_row}
use Rattle.rules.specs.Stock.{holding}
use Rattle.facts.specs.Good.{Sound}
use Rattle.facts.proofs.Truth.{split, join, all_of, below}

module _ (s : State) where
  pub by_row_facts : sound_by_row s ≡ true → Sound s
  unfolding sound_by_row
  by_row_facts h =
      let t = split (sound_set_up s ∷ sound_requests s ∷ sound_exposures s ∷ []) h in
      let u = split (sound_head s ∷ all (sound_security s) 64 0 ∷ all (sound_participant s) 32 0 ∷ all (sound_basket s) 16 0 ∷ all (is_spare s) (rows_of spares) 0 ∷ []) t.0 in
      let r = split (all (sound_row s) 256 0 ∷ all (distinct_number s) 256 0 ∷ []) t.1.0 in
      let e = split (all (sound_exposure s) 64 0 ∷ all (distinct_key s) 64 0 ∷ all (sound_positions s) 64 0 ∷ all (sound_holdings s) 32 0 ∷ []) t.1.1 in
      record {
        head = u.0;
        security = below (sound_security s) 64 u.1.0;
        participant = below (sound_participant s) 32 u.1.1.0;
        basket = below (sound_basket s) 16 u.1.1.1.0;
        spare = below (is_spare s) (rows_of spares) u.1.1.1.1;
        row = below (sound_row s) 256 r.0;
        number = below (distinct_number s) 256 r.1;
        exposure = below (sound_exposure s) 64 e.0;
        key = below (distinct_key s) 64 e.1.0;
        position = λ x i h l. below (sound_position s x) 64 (below (sound_positions s) 64 e.1.1.0 x h) i l;
        held = λ p i h l. leb-true (holding s p i) 500000000 (below (sound_holding s p) 64 (below (sound_holdings s) 32 e.1.1.1 p h) i l);
      }

  pub facts_by_row : Sound s → sound_by_row s ≡ true
  unfolding sound_by_row
  facts_by_row f =
      join (sound_set_up s ∷ sound_requests s ∷ sound_exposures s ∷ []) (
        join (sound_head s ∷ all (sound_security s) 64 0 ∷ all (sound_participant s) 32 0 ∷ all (sound_basket s) 16 0 ∷ all (is_spare s) (rows_of spares) 0 ∷ []) (
          f.head,
          (
            all_of (sound_security s) 64 0 (λ j g l. f.security j l),
            (
              all_of (sound_participant s) 32 0 (λ j g l. f.participant j l),
              (all_of (sound_basket s) 16 0 (λ j g l. f.basket j l), all_of (is_spare s) (rows_of spares) 0 (λ j g l. f.spare j l)),
            ),
          ),
        ),
        (
          join (all (sound_row s) 256 0 ∷ all (distinct_number s) 256 0 ∷ [])
              (all_of (sound_row s) 256 0 (λ j g l. f.row j l), all_of (distinct_number s) 256 0 (λ j g l. f.number j l)),
          join (all (sound_exposure s) 64 0 ∷ all (distinct_key s) 64 0 ∷ all (sound_positions s) 64 0 ∷ all (sound_holdings s) 32 0 ∷ []) (
            all_of (sound_exposure s) 64 0 (λ j g l. f.exposure j l),
            (
              all_of (distinct_key s) 64 0 (λ j g l. f.key j l),
              (
                all_of (sound_positions s) 64 0 (λ e g l. all_of (sound_position s e) 64 0 (λ i k m. f.position e i l m)),
                all_of (sound_holdings s) 32 0 (λ p g l. all_of (sound_holding s p) 64 0 (λ i k m. le-leb (holding s p i) 500000000 (f.held p i l m))),
              ),
            ),
          ),
        ),
      )
