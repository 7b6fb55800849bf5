-- The first token with which no program within the limits on nesting starts.
use Rattle.std.specs.Prelude.{◌≡◌, List, [], ◌∷◌, ◌++◌}
use Rattle.sac_base.specs.declared.site.Site.{Site}
use Rattle.sac_ast.specs.Texts.{Lexeme}
use Rattle.sac_ast.specs.Refusals.{Starts, StartsWithin}

-- programs within the limits start with the tokens before the one at the site, and none starts with it
pub record IsFirstStop (ts : List Lexeme) (site : Site) : Type 0 where
  pub before : List Lexeme
  pub token : Lexeme
  pub behind : List Lexeme
  pub whole : ts ≡ before ++ (token ∷ behind)
  pub at : site ≡ token.site
  pub within : StartsWithin before
  pub none : StartsWithin (before ++ (token ∷ [])) → ⊥

-- without the limits, too, no program starts with it
pub record IsFirstStuck (ts : List Lexeme) (site : Site) : Type 0 where
  pub stop : IsFirstStop ts site
  pub none : Starts (stop.before ++ (stop.token ∷ [])) → ⊥

-- without the limits some program starts with it
pub record IsFirstTooDeep (ts : List Lexeme) (site : Site) : Type 0 where
  pub stop : IsFirstStop ts site
  pub begun : Starts (stop.before ++ (stop.token ∷ []))
