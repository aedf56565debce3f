-- How a line begins, by what its first two tokens are.
use Rattle.std.proofs.Common.{◌≡◌, ℕ, List, [], ◌∷◌, refl, subst, Option, Some, None}
use Rattle.std.specs.Prelude.{MatchOption}
use Rattle.yaml_tokens.specs.declared.token.Token.{Token}
use Rattle.yaml_tokens.specs.declared.token.Token.TheVariants.{Dash, Colon, Open, Close, Comma, Plain, Quoted, Anchor, Alias}
use Rattle.yaml_tokens.specs.declared.token.Placed.{Placed}
use Rattle.yaml_tokens.specs.Packed.{kind_of, first_kind, second_kind, first_column}
use Rattle.yaml_tokens.specs.Tokens.{Line}
use Rattle.yaml_core.specs.Tree.{indentation, head_at, entry_at, entry_of}
use Rattle.yaml_core.specs.Start.{begins, begins_of, begins_after, begins_by}

pub column-is : (l : Line) → first_column l ≡ indentation l
column-is [] = refl
column-is (t ∷ ts) = refl

after-token : (key : List ℕ) (tok : Token) (ts : Line) → begins_after (Some (kind_of tok)) ≡ begins_of (entry_at key tok ts)
after-token key Dash ts = refl
after-token key Colon ts = refl
after-token key Open ts = refl
after-token key Close ts = refl
after-token key Comma ts = refl
after-token key (Plain text) ts = refl
after-token key (Quoted text) ts = refl
after-token key (Anchor name) ts = refl
after-token key (Alias name) ts = refl

after-scalar : (key : List ℕ) (ts : Line) → begins_after (first_kind ts) ≡ begins_of (entry_of key ts)
after-scalar key [] = refl
after-scalar key (t ∷ ts) = after-token key t.token ts

begins-token : (tok : Token) (ts : Line) → begins_by (Some (kind_of tok)) (first_kind ts) ≡ begins_of (head_at tok ts)
begins-token Dash ts = refl
begins-token Colon ts = refl
begins-token Open ts = refl
begins-token Close ts = refl
begins-token Comma ts = refl
begins-token (Plain text) ts = after-scalar text ts
begins-token (Quoted text) ts = after-scalar text ts
begins-token (Anchor name) ts = refl
begins-token (Alias name) ts = refl

pub begins-kinds : (l : Line) → begins_by (first_kind l) (second_kind l) ≡ begins l
begins-kinds [] = refl
begins-kinds (t ∷ ts) = begins-token t.token ts

-- ---- the first token, if one was taken

pub taken-some : (old new : Line) (taken : Option Placed) (t : Placed) → MatchOption taken ((old ≡ []) × (new ≡ [])) (λ token. old ≡ token ∷ new) → taken ≡ Some t → old ≡ t ∷ new
taken-some old new taken t h e = subst (λ o. MatchOption o ((old ≡ []) × (new ≡ [])) (λ token. old ≡ token ∷ new)) e h

pub taken-none : (old new : Line) (taken : Option Placed) → MatchOption taken ((old ≡ []) × (new ≡ [])) (λ token. old ≡ token ∷ new) → ((t : Placed) → taken ≡ Some t → ⊥) → old ≡ []
taken-none old new None h never = h.0
taken-none old new (Some t) h never = absurd (never t refl)
