mod Some
